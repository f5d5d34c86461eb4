-- "its answer is one 64-bit number, the pattern that the array call would leave at that place, or 2^32 plus the refusal number."
-- Document 02 (a): "the C loader's number gains 2^33 for a rise, 2^34 for a fall"; (b): "The C loader passes the turn (how many present finite readings came before)
-- instead of the place." Only the turn's parity matters.
use mathlib.Core.Path.{◌≡◌, refl, ap}
use mathlib.Core.Bool.{Bool, true, false, cond}
use mathlib.Core.List.{List}
use Prim.Native.Nat.{ℕ, ◌+◌, ◌-◌, ◌*◌, ◌/◌, ◌%◌, ◌^◌, ◌<◌}
use native.Mathlib.Nat.{zero-add}
use native.Mathlib.Omega.{arith}
use lib.Dec.{eqb}
use lib.IntN.{ℤ}
use lib.ListN.{length, take, get_or}
use lib.Pow.{high, low}
use Rattle.meaning.specs.Methods.{Method, TailMethod, shave, set, groom, halfshave, tail, round, absolute, digits, shaved, tail_set, tail_changed, new_magnitude, result, trimmed, risen, fallen, turns_in}
use Rattle.meaning.specs.Questions.{Outcome, refused, accepted, trim_questions}
use Rattle.meaning.specs.Calls.{answering, leaving, trim, trim_singles, loader_number, gain, told, loader}
use Rattle.meaning.proofs.Turns.{at_turn}
use Rattle.meaning.proofs.Laws.{laws}

module _ (F X : ℕ) (x : Method) (mark : ℕ) where
  -- two turns of one parity
  module _ (turn other : ℕ) (same : turn % 2 ≡ other % 2) where
    tail_parity : (c : TailMethod) (t m : ℕ) → tail_changed c turn t m ≡ tail_changed c other t m
    unfolding tail_changed
    tail_parity shave t m = refl
    tail_parity set t m = refl
    tail_parity groom t m = ap (λ (p : ℕ). cond (eqb p 0) (shaved t m) (tail_set t m)) same
    tail_parity halfshave t m = refl

    new_parity : (y : Method) (m : ℕ) → new_magnitude F X y turn m ≡ new_magnitude F X y other m
    unfolding new_magnitude
    new_parity (tail c k) m = tail_parity c (F - k) m
    new_parity (round k) m = refl
    new_parity (absolute q) m = refl
    new_parity (digits n) m = refl

    trimmed_parity : (w : ℕ) → trimmed F X x mark turn w ≡ trimmed F X x mark other w
    unfolding trimmed result
    trimmed_parity w = rw (new_parity x _) refl

told_parity : (x : Method) (mark turn other : ℕ) → turn % 2 ≡ other % 2 → (w : ℕ) → told x mark turn w ≡ told x mark other w
unfolding told risen fallen
told_parity x mark turn other same w = rw (trimmed_parity 23 8 x mark turn other same w) refl

-- the gain stands above a pattern's 32 bits
gain_is : (rose fell : Bool) → gain rose fell ≡ (cond rose 2 0 + cond fell 4 0) * 2 ^ 32
unfolding gain
gain_is true true = refl
gain_is true false = refl
gain_is false true = refl
gain_is false false = refl

module _ (x : Method) (mark turn w : ℕ) (f : trimmed 23 8 x mark turn w < 2 ^ 32) where
  told_is : told x mark turn w ≡ (cond (risen 23 8 x mark turn w) 2 0 + cond (fallen 23 8 x mark turn w) 4 0) * 2 ^ 32 + trimmed 23 8 x mark turn w
  unfolding told
  told_is = let e = gain_is (risen 23 8 x mark turn w) (fallen 23 8 x mark turn w) in omega (arith, e)

  told_low : told x mark turn w % 2 ^ 32 ≡ trimmed 23 8 x mark turn w
  told_low = rw told_is (low _ 32 f)

  told_high : told x mark turn w / 2 ^ 32 ≡ cond (risen 23 8 x mark turn w) 2 0 + cond (fallen 23 8 x mark turn w) 4 0
  told_high = rw told_is (high _ 32 f)

module _ (method : ℕ) (setting : ℤ) (mark : ℕ) where
  module _ (x : Method) (e : trim_questions 23 8 method setting ≡ accepted x) where
    accepted_told : (turn w : ℕ) → loader method setting mark turn w ≡ told x mark turn w
    unfolding loader loader_number answering
    accepted_told turn w = rw e refl

    left : (turn w : ℕ) → w < 2 ^ 32 → trimmed 23 8 x mark turn w < 2 ^ 32
    left turn w f = (laws 23 8).left_pattern method setting x e mark turn w f

    -- with the turn of a place, the lower half is the pattern that the array call leaves there
    pub loader_is_array : (ws : List ℕ) (i : ℕ) → i < length ws → get_or ws i 0 < 2 ^ 32
        → loader method setting mark (turns_in 23 8 mark (take i ws)) (get_or ws i 0) % 2 ^ 32 ≡ get_or (trim_singles method setting mark ws).readings i 0
    unfolding trim leaving
    loader_is_array ws i h f =
        let turn = turns_in 23 8 mark (take i ws) in
        rw (accepted_told turn (get_or ws i 0), e, at_turn 23 8 mark x 0 ws i h, zero-add) (told_low x mark turn (get_or ws i 0) (left turn (get_or ws i 0) f))

    -- the upper half is 2 for a rise, 4 for a fall and 0 where the exact value stayed
    pub loader_moves : (turn w : ℕ) → w < 2 ^ 32 → loader method setting mark turn w / 2 ^ 32 ≡ cond (risen 23 8 x mark turn w) 2 0 + cond (fallen 23 8 x mark turn w) 4 0
    loader_moves turn w f = rw (accepted_told turn w) (told_high x mark turn w (left turn w f))

  -- a refusal gains nothing else
  pub loader_refuses : (n : ℕ) → trim_questions 23 8 method setting ≡ refused n → (turn w : ℕ) → loader method setting mark turn w ≡ 2 ^ 32 + n
  unfolding loader loader_number answering
  loader_refuses n e turn w = rw e refl

  pub loader_parity : (turn other : ℕ) → turn % 2 ≡ other % 2 → (w : ℕ) → loader method setting mark turn w ≡ loader method setting mark other w
  unfolding loader answering
  loader_parity turn other same w = go (trim_questions 23 8 method setting)
    where
      go : (o : Outcome Method) → loader_number (answering o (λ x. told x mark turn w)) ≡ loader_number (answering o (λ x. told x mark other w))
      go (refused n) = refl
      go (accepted x) = ap (λ (v : ℕ). loader_number (accepted v)) (told_parity x mark turn other same w)
