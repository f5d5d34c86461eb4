-- Document 01, "Questions before work begins": from a call's inputs to its outcome. Question 9 stands with the program's text, in the crate `form`.
use Rattle.std.specs.Prelude.{Bool, true, cond, ◌&&◌, ◌||◌, ℕ, suc, ◌+◌, ◌-◌, ◌/◌, ◌%◌, ◌^◌, leb, ltb, eqb, ℤ, pos, negsuc, neg_ℤ, nat_abs, length}
use mathlib.Core.List.{List, [], ◌∷◌, zip_with}
use Rattle.std.specs.Int.Signed.{le_z}
use Rattle.meaning.specs.Readings.{magnitude, infinity, finite, least_exp, missing}
use Rattle.meaning.specs.Layers.{missing_code, layers}
use Rattle.meaning.specs.Methods.{Method, tail, shave, set, groom, halfshave, round, absolute, digits, digit_count}

-- "Every call ends, with one of two outcomes": a refusal with its number, or an accepted call with what comes of it.
pub data Outcome (A : Type 0) : Type 0 where
  refused : ℕ → Outcome A
  accepted : A → Outcome A

-- "The first "no" gives its number and ends the call."
unfoldable pub ask : {A : Type 0} → Bool → ℕ → Outcome A → Outcome A
ask answer number rest = cond answer rest (refused number)

abbrev pub between : ℤ → ℤ → ℤ → Bool
between low z high = le_z low z && le_z z high

-- z counted from -n, for z from -n on
unfoldable pub above : ℕ → ℤ → ℕ
above n (pos k) = n + k
above n (negsuc k) = n - suc k

-- every element passes the test
unfoldable pub all : {A : Type 0} → (A → Bool) → List A → Bool
all test [] = true
all test (x ∷ xs) = test x && all test xs

module _ (F X : ℕ) where
  -- "is the setting in range?": k is 0 to F; p is -149 to 127 or -1074 to 1023; n is 1 to 7 or 1 to 15, the digits that F + 1 bits hold in full
  unfoldable pub setting_in_range : ℕ → ℤ → Bool
  setting_in_range method setting =
      cond (leb method 4) (between (pos 0) setting (pos F))
      (cond (eqb method 5) (between (neg_ℤ (pos (least_exp F X))) setting (pos (2 ^ (X - 1) - 1)))
      (between (pos 1) setting (pos (digit_count 10 (2 ^ suc F) - 1))))

  -- "A method has a number and a signed setting." Asked only of a known method and a setting in range.
  unfoldable pub method_of : ℕ → ℤ → Method
  method_of method setting =
      cond (eqb method 0) (tail shave (nat_abs setting))
      (cond (eqb method 1) (tail set (nat_abs setting))
      (cond (eqb method 2) (tail groom (nat_abs setting))
      (cond (eqb method 3) (tail halfshave (nat_abs setting))
      (cond (eqb method 4) (round (nat_abs setting))
      (cond (eqb method 5) (absolute (above (least_exp F X) setting))
      (digits (nat_abs setting)))))))

  unfoldable pub trim_questions : ℕ → ℤ → Outcome Method
  trim_questions method setting =
      ask (leb method 6) 1
      (ask (setting_in_range method setting) 2
      (accepted (method_of method setting)))

  -- "is the double mark a NaN?": the exponent field is all ones, and the fraction is not 0
  unfoldable pub is_nan : ℕ → Bool
  is_nan w = ltb (infinity F X) (magnitude F X w)

-- ---- packing and unpacking: each test once, then the questions in their order

-- "is L 1 to 65,536?"
abbrev pub length_in_range : ℕ → Bool
length_in_range L = leb 1 L && leb L 65536

-- "is the number of readings (or codes) a whole multiple of L?"
abbrev pub whole : ℕ → ℕ → Bool
whole n L = eqb (n % L) 0

-- "Refused: 11, if a width is outside 2 to 16"
abbrev pub width_in_range : ℕ → Bool
width_in_range w = leb 2 w && leb w 16

-- "is each reading finite or the mark?": of one
abbrev pub packable : ℕ → ℕ → Bool
packable mark r = finite 23 8 r || missing mark r

-- "each E in -149 to 114", and "refusal 7 uses the wider range too": of one
abbrev pub exponent_in_range : ℤ → Bool
exponent_in_range e = between (neg_ℤ (pos 149)) e (pos 128)

-- "12, if a code to be unpacked is above its layer's missing code": of one code in a layer of width w
abbrev pub code_in_range : ℕ → ℕ → Bool
code_in_range w c = leb c (missing_code w)

-- 3, 4 and 5, "has each other array the length that follows?", then "11 .. asked after 5". There are n readings (or codes); `others` says whether the array beside them
-- has its length, and `per_layer` are the lengths of those with one entry for each layer, as the widths have.
unfoldable pub layer_questions : ℕ → ℕ → Bool → List ℕ → List ℕ → Outcome (Unit {0}) → Outcome (Unit {0})
layer_questions L n others per_layer widths rest =
    ask (length_in_range L) 3
    (ask (whole n L) 4
    (ask (others && eqb (length widths) (n / L) && all (λ k. eqb k (n / L)) per_layer) 5
    (ask (all width_in_range widths) 11
    rest)))

-- 3, 4, 5, 11, 6. The last three are lengths.
unfoldable pub pack_questions : ℕ → ℕ → List ℕ → List ℕ → ℕ → ℕ → ℕ → Outcome (Unit {0})
pack_questions mark L widths ws codes references exponents =
    layer_questions L (length ws) (eqb codes (length ws)) (references ∷ exponents ∷ []) widths
    (ask (all (packable mark) ws) 6
    (accepted tt))

-- 3, 4, 5, 11, then "is each R finite and each E in -149 to 114?", "is the double mark a NaN?" and "12 .. asked after 8". The last is a length.
unfoldable pub unpack_questions : ℕ → ℕ → List ℕ → List ℕ → List ℕ → List ℤ → ℕ → Outcome (Unit {0})
unpack_questions mark L widths cs rs es readings =
    layer_questions L (length cs) (eqb readings (length cs)) (length rs ∷ length es ∷ []) widths
    (ask (all (finite 23 8) rs && all exponent_in_range es) 7
    (ask (is_nan 52 11 mark) 8
    (ask (all (λ good. good) (zip_with (λ w part. all (code_in_range w) part) widths (layers L cs))) 12
    (accepted tt))))
