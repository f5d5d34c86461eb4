-- A part of a slice that was lent on: the slice once the part has come back.
use Prim.Native.Nat.{ℕ, ◌+◌, ◌-◌, ◌≤◌}
use native.Mathlib.Omega.{arith}
use mathlib.Core.Path.{◌≡◌, refl, sym, ap, ap₂, ◌∙◌}
use mathlib.Core.List.{List, ◌++◌, append_assoc, map}
use Rattle.std.proofs.lemmas.List.{map-append, take-map, drop-map}
use lib.ListN.{length, take, drop, length-append, length-take, length-drop, take-append-drop}
use lib.Seq.{take_at, drop_at, drop-drop, take-take, take-add, take-append-le, drop-append-le, length-take-le}

-- the whole, once its part from a on, k elements long, has come back as ys
abbrev pub back : {A : Type 0} → List A → ℕ → ℕ → List A → List A
back xs a k ys = take a xs ++ (ys ++ drop k (drop a xs))

pub length_back : {A : Type 0} (xs : List A) (a k : ℕ) (ys : List A) → length ys ≡ k → a + k ≤ length xs → length (back xs a k ys) ≡ length xs
length_back xs a k ys e h = simp (length-append, length-take, length-drop) (omega arith)

pub take_back : {A : Type 0} (xs : List A) (a k : ℕ) (ys : List A) → length ys ≡ k → a + k ≤ length xs → take (a + k) (back xs a k ys) ≡ take a xs ++ ys
take_back xs a k ys e h =
    ap (take (a + k)) (sym (append_assoc (take a xs) ys (drop k (drop a xs))))
    ∙ take_at (take a xs ++ ys) (drop k (drop a xs)) (a + k) (simp (length-append, length-take) (omega arith))

pub drop_back : {A : Type 0} (xs : List A) (a k : ℕ) (ys : List A) → length ys ≡ k → a + k ≤ length xs → drop (a + k) (back xs a k ys) ≡ drop k (drop a xs)
drop_back xs a k ys e h =
    ap (drop (a + k)) (sym (append_assoc (take a xs) ys (drop k (drop a xs))))
    ∙ drop_at (take a xs ++ ys) (drop k (drop a xs)) (a + k) (simp (length-append, length-take) (omega arith))

-- the part's own place holds what came back
pub back_own : {A : Type 0} (xs : List A) (a k : ℕ) (ys : List A) → length ys ≡ k → a + k ≤ length xs → take k (drop a (back xs a k ys)) ≡ ys
back_own xs a k ys e h =
    ap (take k) (drop_at (take a xs) (ys ++ drop k (drop a xs)) a (simp length-take (omega arith)))
    ∙ take_at ys (drop k (drop a xs)) k e

-- a part, from the start of what holds it
part_start : {A : Type 0} (xs : List A) (b m : ℕ) → b ≤ length xs → take m (drop b xs) ≡ drop b (take (b + m) xs)
part_start xs b m h = sym (ap (drop b) (take-add b m xs) ∙ drop_at (take b xs) (take m (drop b xs)) b (simp length-take (omega arith)))

-- places before it and after it are left alone
pub back_before : {A : Type 0} (xs : List A) (a k : ℕ) (ys : List A) (m b : ℕ) → length ys ≡ k → b + m ≤ a → a + k ≤ length xs → take m (drop b (back xs a k ys)) ≡ take m (drop b xs)
back_before xs a k ys m b e h g =
    let l = length_back xs a k ys e g in
    part_start (back xs a k ys) b m (omega arith)
    ∙ ap (drop b) (take-append-le (b + m) (take a xs) (ys ++ drop k (drop a xs)) (simp length-take (omega arith)) ∙ take-take (b + m) a xs h)
    ∙ sym (part_start xs b m (omega arith))

pub back_after : {A : Type 0} (xs : List A) (a k : ℕ) (ys : List A) (m b : ℕ) → length ys ≡ k → a + k ≤ b → a + k ≤ length xs → take m (drop b (back xs a k ys)) ≡ take m (drop b xs)
back_after xs a k ys m b e h g =
    ap (take m)
    (ap (λ (n : ℕ). drop n (back xs a k ys)) {x = b} {y = a + k + (b - (a + k))} (omega arith)
    ∙ sym (drop-drop (b - (a + k)) (a + k) (back xs a k ys))
    ∙ ap (drop (b - (a + k))) (drop_back xs a k ys e g ∙ drop-drop k a xs)
    ∙ drop-drop (b - (a + k)) (a + k) xs
    ∙ ap (λ (n : ℕ). drop n xs) {x = a + k + (b - (a + k))} {y = b} (omega arith))

-- ---- two parts, one after the other

-- two parts side by side are one
pub back_join : {A : Type 0} (xs : List A) (a j k : ℕ) (ys zs : List A) → length ys ≡ j → a + j ≤ length xs → back xs a (j + k) (ys ++ zs) ≡ back (back xs a j ys) (a + j) k zs
back_join xs a j k ys zs e h =
    rw (take_back xs a j ys e h, drop_back xs a j ys e h, append_assoc, append_assoc, drop-drop k j (drop a xs)) refl

-- a part of what stands in front, and a part of what stands behind
back_front : {A : Type 0} (ps qs : List A) (a k : ℕ) (ys : List A) → a + k ≤ length ps → back (ps ++ qs) a k ys ≡ back ps a k ys ++ qs
back_front ps qs a k ys h =
    rw (take-append-le a ps qs (omega arith), drop-append-le a ps qs (omega arith), drop-append-le k (drop a ps) qs (simp length-drop (omega arith)), append_assoc, append_assoc) refl

back_behind : {A : Type 0} (ps qs : List A) (b k : ℕ) (ys : List A) → length ps ≡ b → back (ps ++ qs) b k ys ≡ ps ++ (ys ++ drop k qs)
back_behind ps qs b k ys e = rw (take_at ps qs b e, drop_at ps qs b e) refl

-- of two parts that don't meet, either may come back first
pub back_apart : {A : Type 0} (xs : List A) (a j b k : ℕ) (ys zs : List A) → length ys ≡ j → a + j ≤ b → b ≤ length xs
    → back (back xs a j ys) b k zs ≡ back (back xs b k zs) a j ys
back_apart xs a j b k ys zs e h l =
    let ps = take b xs in
    let qs = drop b xs in
    let n : length ps ≡ b = length-take-le b xs l in
    ap (λ us. back (back us a j ys) b k zs) (sym (take-append-drop b xs))
    ∙ ap (λ us. back us b k zs) (back_front ps qs a j ys (omega arith))
    ∙ back_behind (back ps a j ys) qs b k zs (length_back ps a j ys e (omega arith) ∙ n)
    ∙ sym (back_front ps (zs ++ drop k qs) a j ys (omega arith))
    ∙ sym (ap (λ us. back us a j ys) (back_behind ps qs b k zs n))
    ∙ ap (λ us. back (back us b k zs) a j ys) (take-append-drop b xs)

-- a part whose elements are read by f
pub map_back : {A B : Type 0} (f : A → B) (xs : List A) (a k : ℕ) (ys : List A) → map f (back xs a k ys) ≡ back (map f xs) a k (map f ys)
map_back f xs a k ys =
    map-append f (take a xs) (ys ++ drop k (drop a xs))
    ∙ ap₂ (λ (us vs : List _). us ++ vs) (sym (take-map f a xs)) (map-append f ys (drop k (drop a xs)) ∙ ap (λ (vs : List _). map f ys ++ vs) (sym (drop-map f k (drop a xs)) ∙ ap (drop k) (sym (drop-map f a xs))))
