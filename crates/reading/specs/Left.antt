-- What is left of a reading x whose new pattern would be z, and what it counts for; and the new pattern of a reading by its new magnitude. For every width.
use Rattle.std.specs.Prelude.{cond, ℕ, ◌+◌, eqb, ltb}
use Rattle.meaning.specs.Readings.{sign, magnitude, pattern, finite, missing}
use Rattle.meaning.specs.Methods.{Method, shaved, new_magnitude, clips, trimmable, trimmed, changed, spared, clipped, risen}

-- what one reading, or a whole array, counts for: places changed, places where the reading or its result is the mark, places clipped, places missing,
-- places where the exact value rose
pub record Tally : Type 0 where
  pub changed : ℕ
  pub marked : ℕ
  pub clipped : ℕ
  pub missing : ℕ
  pub risen : ℕ

-- the pattern that is left of a reading, and what the reading counts for
pub record Settled : Type 0 where
  pub pattern : ℕ
  pub tally : Tally

-- x stays where it is missing
unfoldable pub unless_missing : ℕ → ℕ → ℕ → ℕ
unless_missing mark x z = cond (eqb x mark) x z

-- and where its new pattern would be the mark
unfoldable pub left_from : ℕ → ℕ → ℕ → ℕ
left_from mark x z = cond (eqb (unless_missing mark x z) mark) x (unless_missing mark x z)

module _ (F X : ℕ) where
  -- 1 where the exact value rises from x to p, two patterns of one sign: the magnitude grows and the sign is 0, or it shrinks and the sign is 1
  unfoldable pub rose_from : ℕ → ℕ → ℕ
  rose_from x p =
      let grows = ltb (magnitude F X x) (magnitude F X p) in
      cond (eqb p x) 0 (cond (eqb (sign F X p) 0) (cond grows 1 0) (cond grows 0 1))

  -- `over` is 1 where z is clipped
  unfoldable pub settled_from : ℕ → ℕ → ℕ → ℕ → Settled
  settled_from mark x z over =
      record {
        pattern = left_from mark x z;
        tally = record {
          changed = cond (eqb (left_from mark x z) x) 0 1;
          marked = cond (eqb (unless_missing mark x z) mark) 1 0;
          clipped = cond (eqb (left_from mark x z) x) 0 over;
          missing = cond (eqb x mark) 1 0;
          risen = rose_from x (left_from mark x z);
        };
      }

-- methods 0 to 3: a tail of t bits becomes `add`, and zero stays
unfoldable pub tail_added : ℕ → ℕ → ℕ → ℕ
tail_added t add m = cond (eqb m 0) m (shaved t m + add)

module _ (F X : ℕ) where
  -- the new pattern of a reading whose new magnitude is n: a reading that isn't finite stays
  unfoldable pub wanted : ℕ → ℕ → ℕ
  wanted w n = cond (finite F X w) (pattern F X (sign F X w) n) w

  -- the new pattern by a method at a turn, and 1 where it is clipped
  unfoldable pub wanted_by : Method → ℕ → ℕ → ℕ
  wanted_by x turn w = wanted w (new_magnitude F X x turn (magnitude F X w))

  unfoldable pub over : Method → ℕ → ℕ
  over x w = cond (clips F X x (magnitude F X w)) 1 0

  -- a reading trimmed by a method at a turn
  unfoldable pub settled_by : Method → ℕ → ℕ → ℕ → Settled
  settled_by x mark turn w = settled_from F X mark w (wanted_by x turn w) (over x w)

  -- a reading whose tail of t bits becomes `add`
  unfoldable pub settled_tail : ℕ → ℕ → ℕ → ℕ → Settled
  settled_tail t add mark w = settled_from F X mark w (wanted w (tail_added t add (magnitude F X w))) 0

  -- document 02 (b): `bit` where a reading takes a turn in grooming, and 0 where it doesn't
  unfoldable pub takes : ℕ → ℕ → ℕ → ℕ
  takes bit mark w = cond (trimmable F X mark w) bit 0

  -- what the documents' definitions say of a reading: the pattern that is left, and what it counts for
  unfoldable pub in_force : Method → ℕ → ℕ → ℕ → Settled
  in_force x mark turn w =
      record {
        pattern = trimmed F X x mark turn w;
        tally = record {
          changed = cond (changed F X x mark turn w) 1 0;
          marked = cond (spared F X x mark turn w) 1 0 + cond (missing mark w) 1 0;
          clipped = cond (clipped F X x mark turn w) 1 0;
          missing = cond (missing mark w) 1 0;
          risen = cond (risen F X x mark turn w) 1 0;
        };
      }
