-- Block after block: what is done, and then the rest, is the whole. For every number of bytes.
use mathlib.Core.Path.{◌≡◌, refl, sym, ap, ap₂, subst, ◌∙◌}
use mathlib.Core.List.{List, [], ◌++◌, map, append_assoc, append-nil}
use Prim.Native.Nat.{ℕ, zero, suc, ◌+◌, ◌-◌, ◌≤◌, ◌<◌, min}
use native.Mathlib.Nat.{add-zero, sub-zero}
use native.Mathlib.Omega.{arith}
use lib.ListN.{length, take, drop, length-drop, length-map, take-append-drop, drop_of_length-le}
use lib.Seq.{take_all, drop-drop, length-take-le}
use Rattle.std.proofs.lemmas.List.{map-append}
use Rattle.parts.proofs.Back.{back, length_back, take_back}
use Rattle.array_planes.specs.Places.{stored, fetched, Room}
use Rattle.array_planes.proofs.Places.{stored_length, stored_append, fetched_length, fetched_append}

pub none_stored : (B n a : ℕ) (ps : List ℕ) → stored B n a 0 [] ps ≡ ps
unfolding stored
none_stored zero n a ps = refl
none_stored (suc B) n a ps = none_stored B n (n + a) (take a ps ++ drop a ps) ∙ take-append-drop a ps

-- how far blocks of 512 have come that begin at s, of m numbers in all
module _ (s m : ℕ) (h : s < m) where
  reached : min s m ≡ s
  reached = omega arith

  reach : min (s + 512) m ≡ s + min 512 (m - s)
  reach = omega arith

-- ---- writing

-- qs is the buffer ps with the first a of the numbers ws written, which v reads
pub record Writing {W : Type 0} (v : W → ℕ) (B n b : ℕ) (ws : List W) (ps qs : List ℕ) (a : ℕ) : Type 0 where
  pub within : a ≤ length ws
  pub long : length qs ≡ length ps
  pub done : stored B n (b + a) (length ws - a) (map v (drop a ws)) qs ≡ stored B n b (length ws) (map v ws) ps

module _ {W : Type 0} (v : W → ℕ) (B n b : ℕ) (ws : List W) (ps : List ℕ) where
  pub writing_begin : Writing v B n b ws ps ps 0
  writing_begin = record { within = omega arith; long = refl; done = rw (add-zero b, sub-zero (length ws)) refl }

  module _ (qs : List ℕ) (a : ℕ) (inv : Writing v B n b ws ps qs a) where
    writing_on : length ws ≤ n → Room B n b (length ws) (length ps) → {rs : List ℕ} (k e : ℕ) → a + k ≡ e → e ≤ length ws
        → rs ≡ stored B n (b + a) (length (take k (drop a ws))) (map v (take k (drop a ws))) qs → Writing v B n b ws ps rs e
    writing_on few room {rs} k e ek el er =
        let us = take k (drop a ws) in
        let vs = drop e ws in
        let ul : length us ≡ k = length-take-le k (drop a ws) (simp length-drop (omega arith)) in
        let um : length (map v us) ≡ k = length-map us v ∙ ul in
        let vm : length (map v vs) ≡ length ws - e = length-map vs v ∙ length-drop e ws in
        let d : map v (drop a ws) ≡ map v us ++ map v vs =
        ap (map v) (sym (take-append-drop k (drop a ws)) ∙ ap (λ (l : List W). us ++ l) (drop-drop k a ws ∙ ap (λ (j : ℕ). drop j ws) ek)) ∙ map-append v us vs in
        let j : length ws - a ≡ k + (length ws - e) = omega arith in
        let c : b + a + k ≡ b + e = omega arith in
        let r : rs ≡ stored B n (b + a) k (map v us) qs = er ∙ ap (λ (m : ℕ). stored B n (b + a) m (map v us) qs) ul in
        let q : length qs ≡ length ps = inv.long in
        record {
          within = el;
          long = ap length r ∙ stored_length B n (b + a) k (map v us) qs um (rw q (omega arith)) ∙ q;
          done =
              ap (stored B n (b + e) (length ws - e) (map v vs)) r
              ∙ ap (λ (m : ℕ). stored B n m (length ws - e) (map v vs) (stored B n (b + a) k (map v us) qs)) (sym c)
              ∙ sym (stored_append B n (b + a) k (length ws - e) (map v us) (map v vs) qs um vm (omega arith) (rw q (omega arith)))
              ∙ ap₂ (λ (m : ℕ) (l : List ℕ). stored B n (b + a) m l qs) (sym j) (sym d)
              ∙ inv.done;
        }

    writing_whole : length ws ≤ a → qs ≡ stored B n b (length ws) (map v ws) ps
    writing_whole h =
        let z : length ws - a ≡ 0 = omega arith in
        sym (ap₂ (λ (m : ℕ) (l : List W). stored B n (b + a) m (map v l) qs) z (drop_of_length-le ws h) ∙ none_stored B n (b + a) qs) ∙ inv.done

  -- a block from s on
  pub writing_turn : (qs : List ℕ) (s : ℕ) → s < length ws → Writing v B n b ws ps qs (min s (length ws)) → length ws ≤ n → Room B n b (length ws) (length ps) → {rs : List ℕ} (k : ℕ)
      → k ≡ min 512 (length ws - s) → rs ≡ stored B n (b + s) (length (take k (drop s ws))) (map v (take k (drop s ws))) qs → Writing v B n b ws ps rs (min (s + 512) (length ws))
  writing_turn qs s h inv few room {rs} k ek er =
      let here : Writing v B n b ws ps qs s = subst (Writing v B n b ws ps qs) (reached s (length ws) h) inv in
      writing_on qs s here few room k (min (s + 512) (length ws)) (omega arith) (omega arith) er

  pub writing_end : (qs : List ℕ) (s : ℕ) → length ws ≤ s → Writing v B n b ws ps qs (min s (length ws)) → qs ≡ stored B n b (length ws) (map v ws) ps
  writing_end qs s h inv = writing_whole qs (min s (length ws)) inv (omega arith)

-- ---- reading

-- the first a of m numbers stand in xs, which v reads
pub record Reading {W : Type 0} (v : W → ℕ) (B n b m : ℕ) (ps : List ℕ) (xs : List W) (a : ℕ) : Type 0 where
  pub within : a ≤ m
  pub long : length xs ≡ m
  pub done : map v (take a xs) ++ fetched B n (b + a) (m - a) ps ≡ fetched B n b m ps

none_fetched : (B n a : ℕ) (ps : List ℕ) → Room B n a 0 (length ps) → fetched B n a 0 ps ≡ []
none_fetched B n a ps r = empty (fetched B n a 0 ps) (fetched_length B n a 0 ps r)
  where
    empty : (l : List ℕ) → length l ≡ 0 → l ≡ []
    empty l e = sym (take_all 0 l (omega arith))

module _ {W : Type 0} (v : W → ℕ) (B n b m : ℕ) (ps : List ℕ) where
  pub reading_begin : (xs : List W) → length xs ≡ m → Reading v B n b m ps xs 0
  reading_begin xs e = record { within = omega arith; long = e; done = rw (add-zero b, sub-zero m) refl }

  module _ (xs : List W) (a : ℕ) (inv : Reading v B n b m ps xs a) (room : Room B n b m (length ps)) where
    reading_on : (ys : List W) (k e : ℕ) → a + k ≡ e → e ≤ m → length ys ≡ k → map v ys ≡ fetched B n (b + a) (length (take k (drop a xs))) ps → Reading v B n b m ps (back xs a k ys) e
    reading_on ys k e ek el yl ey =
        let l = inv.long in
        let t : length (take k (drop a xs)) ≡ k = length-take-le k (drop a xs) (simp length-drop (omega arith)) in
        let y : map v ys ≡ fetched B n (b + a) k ps = ey ∙ ap (λ (j : ℕ). fetched B n (b + a) j ps) t in
        let fits : a + k ≤ length xs = omega arith in
        let j : m - a ≡ k + (m - e) = omega arith in
        let c : b + a + k ≡ b + e = omega arith in
        record {
          within = el;
          long = length_back xs a k ys yl fits ∙ l;
          done =
              ap (λ (p : ℕ). map v (take p (back xs a k ys)) ++ fetched B n (b + e) (m - e) ps) (sym ek)
              ∙ ap (λ (s : List ℕ). s ++ fetched B n (b + e) (m - e) ps) (ap (map v) (take_back xs a k ys yl fits) ∙ map-append v (take a xs) ys)
              ∙ append_assoc (map v (take a xs)) (map v ys) (fetched B n (b + e) (m - e) ps)
              ∙ ap (λ (s : List ℕ). map v (take a xs) ++ s)
              (ap₂ (λ (s : List ℕ) (p : ℕ). s ++ fetched B n p (m - e) ps) y (sym c)
              ∙ sym (fetched_append B n (b + a) k (m - e) ps (omega arith)) ∙ ap (λ (p : ℕ). fetched B n (b + a) p ps) (sym j))
              ∙ inv.done;
        }

    reading_whole : m ≤ a → map v xs ≡ fetched B n b m ps
    reading_whole h =
        let l = inv.long in
        let w = inv.within in
        let z : m - a ≡ 0 = omega arith in
        sym (ap (λ (p : ℕ). map v (take a xs) ++ fetched B n (b + a) p ps) z
        ∙ ap (λ (s : List ℕ). map v (take a xs) ++ s) (none_fetched B n (b + a) ps (omega arith)) ∙ append-nil (map v (take a xs)) ∙ ap (map v) (take_all a xs (omega arith))) ∙ inv.done

  -- a block from s on
  pub reading_turn : (xs : List W) (s : ℕ) → s < m → Reading v B n b m ps xs (min s m) → Room B n b m (length ps) → (ys : List W) (k : ℕ)
      → k ≡ min 512 (m - s) → length ys ≡ length (take k (drop s xs)) → map v ys ≡ fetched B n (b + s) (length (take k (drop s xs))) ps → Reading v B n b m ps (back xs s k ys) (min (s + 512) m)
  reading_turn xs s h inv room ys k ek yl ey =
      let l : length xs ≡ m = inv.long in
      let here : Reading v B n b m ps xs s = subst (Reading v B n b m ps xs) (reached s m h) inv in
      reading_on xs s here room ys k (min (s + 512) m) (omega arith) (omega arith) (yl ∙ length-take-le k (drop s xs) (simp length-drop (omega arith))) ey

  pub reading_end : (xs : List W) (s : ℕ) → m ≤ s → Reading v B n b m ps xs (min s m) → Room B n b m (length ps) → map v xs ≡ fetched B n b m ps
  reading_end xs s h inv room = reading_whole xs (min s m) inv room (omega arith)
