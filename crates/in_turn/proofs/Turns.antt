-- The calls of a list, one turn of a loop after the other, for every width: the calls that are left give of the array as it is now what the whole list gives of
-- the array as it was.
use Rattle.std.proofs.Common.{◌≡◌, refl, ℕ, ℤ, List, [], ◌∷◌, length, ◌⊎◌, inl, inr, arith, w32, to_z, of_z}
use Rattle.std.proofs.lemmas.Int.{to_z-of_z}
use mathlib.Core.List.{zip_with}
use mir.Val.{SFits}
use Rattle.meaning.specs.Calls.{trim, in_turn}
use Rattle.in_turn.specs.Lists.{calls_of}

no_call : (ms : List ℕ) (ss : List ℤ) → (length ms ≡ 0) ⊎ (length ss ≡ 0) → calls_of ms ss ≡ []
unfolding zip_with
no_call [] ss h = refl
no_call (m ∷ ms) [] h = refl
no_call (m ∷ ms) (s ∷ ss) (inl h) = absurd (omega arith)
no_call (m ∷ ms) (s ∷ ss) (inr h) = absurd (omega arith)

module _ (F X mark : ℕ) (ws : List ℕ) {all : List ℕ} where
  -- one call, whose setting fits an i32
  pub turn_next : {ms more : List ℕ} {ss others : List ℤ} {m : ℕ} {s : ℤ} {after : List ℕ} → ms ≡ m ∷ more → ss ≡ s ∷ others → after ≡ (trim F X m (to_z w32 (of_z w32 s)) mark ws).readings
      → SFits w32 s → in_turn F X (calls_of ms ss) mark ws ≡ all → in_turn F X (calls_of more others) mark after ≡ all
  unfolding in_turn zip_with
  turn_next {s = s} e g h f t = rw (h, to_z-of_z w32 s f) (rw (e, g) at t)

  pub turn_end : (ms : List ℕ) (ss : List ℤ) → (length ms ≡ 0) ⊎ (length ss ≡ 0) → in_turn F X (calls_of ms ss) mark ws ≡ all → ws ≡ all
  unfolding in_turn
  turn_end ms ss h t = rw (no_call ms ss h) at t
