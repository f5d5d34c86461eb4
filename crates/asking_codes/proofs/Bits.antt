-- The bits of codes. 2^w - 1 has every bit below w, so that it bounds two numbers exactly where it bounds the bits of both.
use mathlib.Core.Path.{◌≡◌, refl, sym, ap, ◌∙◌}
use mathlib.Core.Bool.{Bool, true, false, ◌&&◌}
use mathlib.Core.List.{List, [], ◌∷◌}
use Prim.Native.Nat.{ℕ, ◌-◌, ◌^◌, ◌≤◌, zero-le}
use native.Mathlib.Decide.{dec_le}
use native.Mathlib.Omega.{arith}
use borrow.Author.Tests.{le-leb, lt-leb}
use lib.Bits.{bit_or, and_le_l, and_le_r, or_lt, or_add_and}
use lib.Dec.{leb}
use lib.Pow.{pow_pos}
use Rattle.std.specs.List.{fold}
use Rattle.meaning.specs.Layers.{missing_code}
use Rattle.meaning.specs.Questions.{all, code_in_range}
use Rattle.asking_codes.specs.Codes.{BitsOf}

both : (a b w : ℕ) → leb (bit_or a b) (missing_code w) ≡ leb a (missing_code w) && leb b (missing_code w)
unfolding missing_code
both a b w = go (dec_le a (2 ^ w - 1)) (dec_le b (2 ^ w - 1))
  where
    m : ℕ
    m = 2 ^ w - 1

    left : a ≤ bit_or a b
    left = omega (arith, or_add_and a b, and_le_r a b)

    right : b ≤ bit_or a b
    right = omega (arith, or_add_and a b, and_le_l a b)

    go : Dec (a ≤ 2 ^ w - 1) → Dec (b ≤ 2 ^ w - 1) → leb (bit_or a b) (2 ^ w - 1) ≡ leb a (2 ^ w - 1) && leb b (2 ^ w - 1)
    go (yes h) (yes k) =
        let under = or_lt w a b (omega (arith, pow_pos w)) (omega (arith, pow_pos w)) in
        rw (le-leb a (2 ^ w - 1) h, le-leb b (2 ^ w - 1) k, le-leb (bit_or a b) (2 ^ w - 1) (omega arith)) refl
    go (yes h) (no k) = rw (le-leb a (2 ^ w - 1) h, lt-leb b (2 ^ w - 1) (omega arith), lt-leb (bit_or a b) (2 ^ w - 1) (omega (arith, right))) refl
    go (no h) k = rw (lt-leb a (2 ^ w - 1) (omega arith), lt-leb (bit_or a b) (2 ^ w - 1) (omega (arith, left))) refl

and_three : (a b c : Bool) → a && b && c ≡ a && (b && c)
and_three true b c = refl
and_three false b c = refl

and_true : (a : Bool) → a && true ≡ a
and_true true = refl
and_true false = refl

-- the bits of some codes and of those after them, gathered in order
gathered : (a : ℕ) (cs : List ℕ) (w : ℕ) → leb (fold bit_or a cs) (missing_code w) ≡ leb a (missing_code w) && all (code_in_range w) cs
unfolding all
gathered a [] w = sym (and_true (leb a (missing_code w)))
gathered a (c ∷ cs) w =
    gathered (bit_or a c) cs w ∙ ap (λ (b : Bool). b && all (code_in_range w) cs) (both a c w)
    ∙ and_three (leb a (missing_code w)) (leb c (missing_code w)) (all (code_in_range w) cs)

pub bits_gathered : (cs : List ℕ) → BitsOf (fold bit_or 0 cs) cs
bits_gathered cs w = gathered 0 cs w ∙ rw (le-leb 0 (missing_code w) zero-le) refl
