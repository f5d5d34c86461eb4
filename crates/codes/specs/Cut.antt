-- A size cut down to whole units of 2 ^ s, in words of 64 bits.
use Rattle.std.specs.Prelude.{ℕ, ◌+◌, ◌-◌, ◌*◌, ◌/◌, ◌%◌, ◌^◌, ◌<◌, ◌≤◌, cond, ◌≢◌, List, length, ◌==◌, slice_index}
use Rattle.meaning.specs.Readings.{magnitude, sign, pattern, size, infinity, position, missing}
use Rattle.meaning.specs.Methods.{nearest}
use Rattle.meaning.specs.Layers.{Layer}
use Rattle.codes.specs.declared.Cut.{Cut}

-- the layer of a width, a reference's pattern and an exponent counted from -149
abbrev pub layer_by : ℕ → ℕ → ℕ → Layer
layer_by w r e = record { width = w; reference = r; exponent = e }

-- a code, where m means missing
abbrev pub code_by : ℕ → ℕ → ℕ → ℕ → ℕ → ℕ
code_by m mark r e w = cond (missing mark w) m (nearest (position 23 8 w - position 23 8 r) (2 ^ e))

unfoldable pub flag_of : ℕ → ℕ → ℕ
flag_of a b = cond (a == b) 0 1

-- 1 where a size t is no whole number of units g
unfoldable pub lost_of : ℕ → ℕ → ℕ
lost_of t g = flag_of (t % g) 0

-- The whole units of t, or of -t where the sign is not 0, rounded down, modulo 2 ^ 64.
unfoldable pub word_of : ℕ → ℕ → ℕ → ℕ
word_of sign t g = cond (sign == 0) (t / g % 2 ^ 64) ((2 * 2 ^ 64 - t / g % 2 ^ 64 - lost_of t g) % 2 ^ 64)

unfoldable pub cut_of : ℕ → ℕ → ℕ → Cut
cut_of sign t g = record { word = word_of sign t g; lost = lost_of t g }

-- twice the signed size of a reading, in units of 2 ^ s
unfoldable pub reading_of : ℕ → ℕ → Cut
reading_of w s = cut_of (sign 23 8 w) (2 * size 23 (magnitude 23 8 w)) (2 ^ s)

-- What is added above half a unit less one: a tie goes to the even number, and there is no tie where something was lost.
unfoldable pub bump : ℕ → ℕ → ℕ → ℕ
bump d k lost = cond (lost == 0) (d / 2 ^ k % 2) 1

-- d / 2 ^ k to the nearest, where `lost` says that d stands for a little more than d; in words of 64 bits
unfoldable pub round_word : ℕ → ℕ → ℕ → ℕ
round_word d k lost = (d + (2 ^ (k - 1) - 1 + bump d k lost)) % 2 ^ 64 / 2 ^ k

-- the opposite of a reference r, whose cut the codes of its layer share
unfoldable pub opposed : ℕ → ℕ
opposed r = pattern 23 8 (1 - sign 23 8 r) (magnitude 23 8 r)

pub record CanCode (w r e : ℕ) : Type 0 where
  pub finite : magnitude 23 8 w < infinity 23 8
  pub size_w : size 23 (magnitude 23 8 w) < 2 ^ (e + 41)
  pub above : position 23 8 r ≤ position 23 8 w
  pub holds : position 23 8 w - position 23 8 r ≤ 65534 * 2 ^ e

abbrev pub AllReady : ℕ → ℕ → ℕ → List ℕ → Type 0
AllReady mark r e ws = (i : ℕ) → i < length ws → slice_index ws i ≢ mark → CanCode (slice_index ws i) r e
