-- Document 01, "Seven methods", and document 02 (b), by which grooming takes turns: on one reading, and on an array with its counts. A method works on magnitudes; the
-- sign never changes.
use Rattle.std.specs.Prelude.{Bool, false, cond, not, ◌&&◌, List, [], ◌∷◌, ℕ, zero, suc, ◌+◌, ◌-◌, ◌*◌, ◌/◌, ◌%◌, ◌^◌, leb, ltb, eqb}
use Rattle.meaning.specs.Readings.{size, spacing, sign, magnitude, pattern, infinity, largest, finite, magnitude_of, least_exp, position, missing, present}

-- Methods 0 to 3, which change the tail alone.
pub data TailMethod : Type 0 where
  shave set groom halfshave : TailMethod

-- An accepted method with its setting: the keep bits k; the exponent p of the unit, counted from that of the least spacing (p + 149 or p + 1074), so that
-- the unit is 2 ^ q least spacings; the number n of digits.
pub data Method : Type 0 where
  tail : TailMethod → ℕ → Method
  round : ℕ → Method
  absolute : ℕ → Method
  digits : ℕ → Method

-- n / g "to the nearest whole number, ties to even"
unfoldable pub nearest : ℕ → ℕ → ℕ
nearest n g = cond (ltb (2 * (n % g)) g) (n / g) (cond (ltb g (2 * (n % g))) (n / g + 1) (n / g + n / g % 2))

-- ---- methods 0 to 4, with a tail of t bits

-- "S is M with its tail zeroed."
unfoldable pub shaved : ℕ → ℕ → ℕ
shaved t m = m / 2 ^ t * 2 ^ t

-- "S with every tail bit one; a reading that is zero stays"
unfoldable pub tail_set : ℕ → ℕ → ℕ
tail_set t m = cond (eqb m 0) m (shaved t m + (2 ^ t - 1))

-- "S with the top tail bit one; unchanged when t = 0 or the reading is zero"
unfoldable pub halfshaved : ℕ → ℕ → ℕ
halfshaved zero m = m
halfshaved (suc t) m = cond (eqb m 0) m (shaved (suc t) m + 2 ^ t)

-- methods 0 to 3 at a turn, of which grooming alone takes notice; document 02 (b): "the first is shaved, the next set"
unfoldable pub tail_changed : TailMethod → ℕ → ℕ → ℕ → ℕ
tail_changed shave turn t m = shaved t m
tail_changed set turn t m = tail_set t m
tail_changed groom turn t m = cond (eqb (turn % 2) 0) (shaved t m) (tail_set t m)
tail_changed halfshave turn t m = halfshaved t m

-- "the nearer of S and S + 2^t, taken as patterns; a tie goes to the one whose bit t is zero": the nearest multiple of 2^t, and bit t is the parity of M / 2^t
unfoldable pub rounded : ℕ → ℕ → ℕ
rounded t m = nearest m (2 ^ t) * 2 ^ t

module _ (F : ℕ) where
  -- "the unit is 2^t spacings", and 2^p for method 5, at a magnitude and in least spacings. Digits has none: accepted, it stands in
  -- no list of demand 3.
  unfoldable pub unit : Method → ℕ → ℕ
  unit (tail c k) m = 2 ^ (F - k) * spacing F m
  unit (round k) m = 2 ^ (F - k) * spacing F m
  unit (absolute q) m = 2 ^ q
  unit (digits n) m = 0

  -- method 5: "the nearest whole multiple of 2^p; a tie goes to the even multiple", as a size
  unfoldable pub multiple : ℕ → ℕ → ℕ
  multiple q m = nearest (size F m) (2 ^ q) * 2 ^ q

-- how many digits n has to the base b, none for 0; `fuel` bounds their number
unfoldable pub digits_from : ℕ → ℕ → ℕ → ℕ
digits_from b zero n = 0
digits_from b (suc fuel) n = let more = suc (digits_from b fuel (n / b)) in cond (eqb n 0) 0 more

unfoldable pub digit_count : ℕ → ℕ → ℕ
digit_count b n = digits_from b n n

module _ (F X : ℕ) where
  -- ---- method 6, by whole numbers alone: the size times 10^least_exp has D = d + least_exp digits before the point, where 10^(d-1) ≤ size < 10^d
  unfoldable pub decade : ℕ → ℕ
  decade m = digit_count 10 (size F m * 10 ^ least_exp F X / 2 ^ least_exp F X)

  -- "q the largest power of two not above 10^(d-n)", in least spacings; 0 where that is less than one
  unfoldable pub digit_step : ℕ → ℕ → ℕ
  digit_step n m =
      let power = 2 ^ least_exp F X * 10 ^ decade m / 10 ^ (least_exp F X + n) in cond (eqb power 0) 0 (2 ^ (digit_count 2 power - 1))

  -- "If q is below two spacings, the reading stays. Otherwise the new size is (j + 1/2) times q, with j the whole part of size / q."
  unfoldable pub digit_size : ℕ → ℕ → ℕ
  digit_size n m = let q = digit_step n m in cond (ltb q (2 * spacing F m)) (size F m) (size F m / q * q + q / 2)

  -- ---- clip and spare

  -- "if 4 or 5 would pass the largest finite pattern"
  unfoldable pub clips : Method → ℕ → Bool
  clips (tail c k) m = false
  clips (round k) m = leb (infinity F X) (rounded (F - k) m)
  clips (absolute q) m = ltb (size F (largest F X)) (multiple F q m)
  clips (digits n) m = false

  -- the new size of method 5: "the largest finite value on the grid instead", here "the largest finite multiple of 2^p"
  unfoldable pub absolute_size : ℕ → ℕ → ℕ
  absolute_size q m = cond (clips (absolute q) m) (size F (largest F X) / 2 ^ q * 2 ^ q) (multiple F q m)

  -- the new magnitude, where method 4 clips to S
  unfoldable pub new_magnitude : Method → ℕ → ℕ → ℕ
  new_magnitude (tail c k) turn m = tail_changed c turn (F - k) m
  new_magnitude (round k) turn m = cond (clips (round k) m) (shaved (F - k) m) (rounded (F - k) m)
  new_magnitude (absolute q) turn m = magnitude_of F X (absolute_size q m)
  new_magnitude (digits n) turn m = cond (eqb m 0) m (magnitude_of F X (digit_size n m))

  -- "The sign never changes."
  unfoldable pub result : Method → ℕ → ℕ → ℕ
  result x turn w = pattern F X (sign F X w) (new_magnitude x turn (magnitude F X w))

  -- "Missing readings, infinities and every NaN are never changed by trimming."
  unfoldable pub trimmable : ℕ → ℕ → Bool
  trimmable mark w = present mark w && finite F X w

  -- "if the result, after clipping, would be the mark, the reading keeps its old pattern": counted as spared
  unfoldable pub spared : Method → ℕ → ℕ → ℕ → Bool
  spared x mark turn w = trimmable mark w && missing mark (result x turn w)

  -- the pattern that an accepted trim leaves of a reading at a turn
  unfoldable pub trimmed : Method → ℕ → ℕ → ℕ → ℕ
  trimmed x mark turn w = cond (trimmable mark w && present mark (result x turn w)) (result x turn w) w

  -- "changed (pattern differs from before)", "clipped (and not then spared)"
  unfoldable pub changed : Method → ℕ → ℕ → ℕ → Bool
  changed x mark turn w = not (eqb (trimmed x mark turn w) w)

  unfoldable pub clipped : Method → ℕ → ℕ → ℕ → Bool
  clipped x mark turn w = trimmable mark w && present mark (result x turn w) && clips x (magnitude F X w)

  -- document 02 (a): "whether the exact value rose, fell or stayed". Exact values have signs: a negative reading that is shaved rises
  unfoldable pub risen : Method → ℕ → ℕ → ℕ → Bool
  risen x mark turn w = ltb (position F X w) (position F X (trimmed x mark turn w))

  unfoldable pub fallen : Method → ℕ → ℕ → ℕ → Bool
  fallen x mark turn w = ltb (position F X (trimmed x mark turn w)) (position F X w)

  -- ---- an array

  -- document 02 (b): "the alternation counts present finite readings .. zeros take a turn, missing readings and infinities and NaNs do not". The turn after the reading w
  unfoldable pub turn_after : ℕ → ℕ → ℕ → ℕ
  turn_after mark w turn = cond (trimmable mark w) (suc turn) turn

  -- "the turn (how many present finite readings came before)": how many there are among readings
  unfoldable pub turns_in : ℕ → List ℕ → ℕ
  turns_in mark [] = 0
  turns_in mark (w ∷ ws) = cond (trimmable mark w) 1 0 + turns_in mark ws

  -- what an accepted trim leaves of readings, from a turn on
  unfoldable pub trim_from : Method → ℕ → ℕ → List ℕ → List ℕ
  trim_from x mark turn [] = []
  trim_from x mark turn (w ∷ ws) = trimmed x mark turn w ∷ trim_from x mark (turn_after mark w turn) ws

  -- how many places pass a test, from a turn on
  unfoldable pub count_from : (ℕ → ℕ → Bool) → ℕ → ℕ → List ℕ → ℕ
  count_from test mark turn [] = 0
  count_from test mark turn (w ∷ ws) = cond (test turn w) 1 0 + count_from test mark (turn_after mark w turn) ws

-- "four counts of places"; document 02 (a): "the array's answer carries the numbers risen and fallen"
pub record Counts : Type 0 where
  pub changed_places : ℕ
  pub spared_places : ℕ
  pub clipped_places : ℕ
  pub missing_places : ℕ
  pub risen_places : ℕ
  pub fallen_places : ℕ

module _ (F X : ℕ) where
  unfoldable pub counts : Method → ℕ → List ℕ → Counts
  counts x mark ws =
      record {
        changed_places = count_from F X (changed F X x mark) mark 0 ws;
        spared_places = count_from F X (spared F X x mark) mark 0 ws;
        clipped_places = count_from F X (clipped F X x mark) mark 0 ws;
        missing_places = count_from F X (λ turn w. missing mark w) mark 0 ws;
        risen_places = count_from F X (risen F X x mark) mark 0 ws;
        fallen_places = count_from F X (fallen F X x mark) mark 0 ws;
      }
