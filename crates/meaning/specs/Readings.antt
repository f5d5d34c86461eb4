-- Document 01, "Readings and their exact meaning". A pattern is a whole number below 2 ^ (F + X + 1): its last F bits are the fraction, the X bits above them
-- the exponent field, and the top bit the sign. Singles are F = 23, X = 8; doubles are F = 52, X = 11. Sizes are counted in least spacings, so they are whole numbers.
use Rattle.std.specs.Prelude.{Bool, cond, not, ℕ, zero, suc, max, ◌+◌, ◌-◌, ◌*◌, ◌/◌, ◌%◌, ◌^◌, ltb, eqb}

module _ (F : ℕ) where
  -- "an exponent field e" of a magnitude
  unfoldable pub exponent_field : ℕ → ℕ
  exponent_field m = m / 2 ^ F

  -- "a fraction m of F bits"
  unfoldable pub fraction : ℕ → ℕ
  fraction m = m % 2 ^ F

  -- "exact size, counted in least spacings": m when e = 0, and (2^F + m) times 2^(e-1) otherwise
  unfoldable pub size : ℕ → ℕ
  size m = cond (eqb (exponent_field m) 0) (fraction m) ((2 ^ F + fraction m) * 2 ^ (exponent_field m - 1))

  -- "spacing": 2^(max(e,1)-1) least spacings. Its exponent, and itself
  unfoldable pub spacing_exp : ℕ → ℕ
  spacing_exp m = max (exponent_field m) 1 - 1

  unfoldable pub spacing : ℕ → ℕ
  spacing m = 2 ^ spacing_exp m

  -- The way back from a size: below 2 ^ (F + 1) a size is its own magnitude, and twice a size lies 2 ^ F magnitudes further on. `fuel` bounds the halvings.
  unfoldable pub encode : ℕ → ℕ → ℕ
  encode zero n = n
  encode (suc fuel) n = let further = 2 ^ F + encode fuel (n / 2) in cond (ltb n (2 * 2 ^ F)) n further

module _ (F X : ℕ) where
  -- "sign": 0 or 1 of a pattern of the width
  unfoldable pub sign : ℕ → ℕ
  sign w = w / 2 ^ (F + X)

  -- "magnitude M: the pattern without its sign"
  unfoldable pub magnitude : ℕ → ℕ
  magnitude w = w % 2 ^ (F + X)

  -- the pattern of a sign and a magnitude
  unfoldable pub pattern : ℕ → ℕ → ℕ
  pattern s m = s * 2 ^ (F + X) + m

  -- the magnitude of the infinities, the first whose exponent field is all ones; and the largest finite one
  unfoldable pub infinity : ℕ
  infinity = (2 ^ X - 1) * 2 ^ F

  abbrev pub largest : ℕ
  largest = infinity - 1

  -- "finite when e is not all ones"
  unfoldable pub finite : ℕ → Bool
  finite w = ltb (magnitude w) infinity

  -- for a number below the size of the infinities the largest magnitude whose size is at most that number: for the size of a finite magnitude, that magnitude
  unfoldable pub magnitude_of : ℕ → ℕ
  magnitude_of n = encode F (2 ^ X) n

  -- The least spacing is 2 ^ -least_exp: 2^-149 or 2^-1074.
  unfoldable pub least_exp : ℕ
  least_exp = 2 ^ (X - 1) + F - 2

  -- "exact signed size" of a finite pattern, counted from a point below all of them, so that it is a whole number: zero stands at `origin`
  unfoldable pub origin : ℕ
  origin = size F infinity

  unfoldable pub position : ℕ → ℕ
  position w = cond (eqb (sign w) 0) (origin + size F (magnitude w)) (origin - size F (magnitude w))

-- "Distances between readings are taken between exact signed sizes": of two positions
unfoldable pub distance : ℕ → ℕ → ℕ
distance a b = (a - b) + (b - a)

-- "One mark, a pattern given with each call, means missing. It is compared by its bits"
unfoldable pub missing : ℕ → ℕ → Bool
missing mark w = eqb w mark

-- "A reading that isn't the mark is present."
unfoldable pub present : ℕ → ℕ → Bool
present mark w = not (missing mark w)
