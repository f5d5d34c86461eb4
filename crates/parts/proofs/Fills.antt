-- A loop that fills a slice from another of the same length, or from two: what is written, then f of the rest of the source, is f of the whole source.
use Prim.Native.Nat.{ℕ, suc, ◌+◌, ◌<◌, ◌≤◌}
use native.Mathlib.Numerals.{add-one}
use mathlib.Core.Path.{◌≡◌, sym, ap, ap₂, ◌∙◌}
use mathlib.Core.List.{List, ◌∷◌, ◌++◌, map, zip_with, append_assoc, append-nil}
use lib.ListN.{length, take, drop, get_or, set, drop_of_length-le}
use lib.Seq.{drop-cons, take-suc-set, take_all}

abbrev pub Filled : {A B : Type 0} → (A → B) → List A → List B → ℕ → Type 0
Filled f xs ys i = take i ys ++ map f (drop i xs) ≡ map f xs

pub filled_turn : {A B : Type 0} (f : A → B) (xs : List A) (ys : List B) (i : ℕ) (d : A) (v : B) → i < length xs → i < length ys → v ≡ f (get_or xs i d) → Filled f xs ys i → Filled f xs (set ys i v) (i + 1)
filled_turn f xs ys i d v h k e inv =
    rw (add-one, take-suc-set, append_assoc)
    (ap (λ y. take i ys ++ (y ∷ map f (drop (suc i) xs))) e
    ∙ sym (ap (λ l. take i ys ++ map f l) (drop-cons xs i d h))
    ∙ inv)

pub filled_end : {A B : Type 0} (f : A → B) (xs : List A) (ys : List B) (i : ℕ) → length xs ≤ i → length ys ≤ i → Filled f xs ys i → ys ≡ map f xs
filled_end f xs ys i h k inv =
    sym (take_all i ys k)
    ∙ sym (append-nil (take i ys))
    ∙ sym (ap (λ l. take i ys ++ map f l) (drop_of_length-le xs h))
    ∙ inv

-- and one that fills a slice from two others of its length
abbrev pub Zipped : {A B C : Type 0} → (A → B → C) → List A → List B → List C → ℕ → Type 0
Zipped f xs ys zs i = take i zs ++ zip_with f (drop i xs) (drop i ys) ≡ zip_with f xs ys

pub zipped_turn : {A B C : Type 0} (f : A → B → C) (xs : List A) (ys : List B) (zs : List C) (i : ℕ) (d : A) (e : B) (v : C) → i < length xs → i < length ys → i < length zs
    → v ≡ f (get_or xs i d) (get_or ys i e) → Zipped f xs ys zs i → Zipped f xs ys (set zs i v) (i + 1)
unfolding zip_with
zipped_turn f xs ys zs i d e v h k l q inv =
    rw (add-one, take-suc-set, append_assoc)
    (ap (λ z. take i zs ++ (z ∷ zip_with f (drop (suc i) xs) (drop (suc i) ys))) q
    ∙ sym (ap₂ (λ s t. take i zs ++ zip_with f s t) (drop-cons xs i d h) (drop-cons ys i e k))
    ∙ inv)

pub zipped_end : {A B C : Type 0} (f : A → B → C) (xs : List A) (ys : List B) (zs : List C) (i : ℕ) → length xs ≤ i → length zs ≤ i → Zipped f xs ys zs i → zs ≡ zip_with f xs ys
unfolding zip_with
zipped_end f xs ys zs i h k inv =
    sym (take_all i zs k)
    ∙ sym (append-nil (take i zs))
    ∙ sym (ap (λ l. take i zs ++ zip_with f l (drop i ys)) (drop_of_length-le xs h))
    ∙ inv
