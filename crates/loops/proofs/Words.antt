-- The walk's laws for a slice of words, which `value` reads as numbers.
use Rattle.std.proofs.Common.{◌≡◌, ℕ, ◌+◌, ◌<◌, ◌≤◌, List, length, take, drop, get_or, sym, ap, ◌∙◌}
use lib.ListN.{set}
use native.Mathlib.Nat.{le_refl}
use mathlib.Core.Path.{subst}
use mathlib.Core.List.{map}
use Rattle.std.proofs.lemmas.List.{map-set, get_or-map, length-map, take-map, drop-map}
use Rattle.parts.proofs.Back.{back, map_back}
use Rattle.reading.specs.Left.{Tally, Settled}
use Rattle.reading.specs.Words.{settled_at}
use Rattle.reading.specs.declared.Trimmed.{Trimmed}
use Rattle.loops.specs.Tallies.{plus, Few}
use Rattle.loops.proofs.Tallies.{few_wider, few_plus}
use Rattle.loops.specs.Walk.{state_at, walked_by, tallied_by}
use Rattle.loops.proofs.Walks.{Walk, room, step, part, few_part}

module _ {W : Type 0} (value : W → ℕ) {next : ℕ → ℕ → ℕ} {f : ℕ → ℕ → Settled} {first : ℕ} {all : List ℕ} (xs : List W) {t : Tally} {s i : ℕ} (inv : Walk next f first all (map value xs) t s i) where
  read : (d : W) → i < length xs → value (get_or xs i d) ≡ get_or (map value xs) i 0
  read d h = sym (get_or-map value xs i d 0 h)

  -- what one reading more asks for
  pub room_at : (d : W) {r : Trimmed W} {most : ℕ} → i + 1 ≤ most → i < length xs → settled_at value r ≡ f s (value (get_or xs i d)) → Few (plus t (settled_at value r).tally) most
  room_at d {r} {most} h l e =
      let both = room inv {most = i} (le_refl i) (e ∙ ap (f s) (read d l)) in
      few_wider _ (i + 1) most h (few_plus t (settled_at value r).tally i 1 both.0 both.1)

  -- after one reading more
  pub step_at : (d : W) {r : Trimmed W} {u : Tally} {v : ℕ}
      → i < length xs → settled_at value r ≡ f s (value (get_or xs i d)) → u ≡ plus t (settled_at value r).tally → v ≡ next (value (get_or xs i d)) s
      → Walk next f first all (map value (set xs i r.pattern)) u v (i + 1)
  step_at d {r} {u} {v} h e p n =
      subst (λ (ws : List ℕ). Walk next f first all ws u v (i + 1)) (sym (map-set value xs i r.pattern))
      (step inv (rw length-map h) (e ∙ ap (f s) (read d h)) p (n ∙ ap (λ (w : ℕ). next w s) (read d h)))

  -- the k readings from i on
  cut : (k : ℕ) → take k (drop i (map value xs)) ≡ map value (take k (drop i xs))
  cut k = ap (take k) (drop-map value i xs) ∙ take-map value k (drop i xs)

  -- after a part that was walked by itself
  pub part_at : (k : ℕ) → i + k ≤ length xs → (ys : List W) {r u : Tally} {v e : ℕ} → i + k ≡ e → map value ys ≡ walked_by next f s (map value (take k (drop i xs)))
      → r ≡ tallied_by next f s (map value (take k (drop i xs))) → u ≡ plus t r → v ≡ state_at next s (map value (take k (drop i xs))) (length (map value (take k (drop i xs))))
      → Walk next f first all (map value (back xs i k ys)) u v e
  part_at k long ys {r} {u} {v} {e} to ey er eu ev =
      subst (λ (ws : List ℕ). Walk next f first all ws u v e) (sym (map_back value xs i k ys))
      (part inv k (rw length-map long) to (ey ∙ ap (walked_by next f s) (sym (cut k))) (er ∙ ap (tallied_by next f s) (sym (cut k))) eu
      (ev ∙ ap (λ (ws : List ℕ). state_at next s ws (length ws)) (sym (cut k))))

  pub few_part_at : (k : ℕ) → i + k ≤ length xs → {r : Tally} → r ≡ tallied_by next f s (map value (take k (drop i xs))) → Few (plus t r) (i + k)
  few_part_at k long e = few_part inv k (rw length-map long) (e ∙ ap (tallied_by next f s) (sym (cut k)))
