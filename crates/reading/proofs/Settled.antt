-- What is left of a reading: by what it loses, and by any method from a new magnitude and a clip that are right where the reading is finite. For every width.
use mathlib.Core.Path.{◌≡◌, refl, sym, ◌∙◌}
use mathlib.Core.Bool.{Bool, true, false, cond}
use Prim.Native.Nat.{ℕ, ◌+◌, ◌-◌, ◌%◌, ◌<◌}
use native.Mathlib.Nat.{add_comm, mod-eq_of_lt}
use native.Mathlib.Omega.{arith}
use lib.Dec.{eqb, ltb}
use Rattle.meaning.specs.Readings.{magnitude, infinity}
use Rattle.meaning.specs.Methods.{Method, new_magnitude}
use Rattle.reading.specs.Left.{unless_missing, left_from, rose_from, settled_from, settled_by, over}
use Rattle.reading.proofs.Words.{by_word, by_clip}
use Rattle.reading.proofs.Wraps.{wrapped}

-- what is left of x by what it loses, a difference that wraps around: l is that, or 0 where x stays
pub lost : (W x z d l p : ℕ) (b : Bool) → z < W → d < W → p < W → (d + z) % W ≡ x → l ≡ cond b 0 d → (p + l) % W ≡ x → p ≡ cond b x z
lost W x z d l p true hz hd hp dd ll pp = let sum : p + l ≡ p = omega (arith, ll) in sym (mod-eq_of_lt hp) ∙ rw sum at pp
lost W x z d l p false hz hd hp dd ll pp = wrapped W p d x hp hd (rw (← ll) pp) ∙ sym (wrapped W z d x hz hd (rw (add_comm z d) dd))

-- and all of it
pub settled_as : (F X mark x z over : ℕ) (p changed marked clipped missing risen : ℕ) → p ≡ left_from mark x z → changed ≡ cond (eqb p x) 0 1
    → marked ≡ cond (eqb (unless_missing mark x z) mark) 1 0 → clipped ≡ cond (eqb p x) 0 over → missing ≡ cond (eqb x mark) 1 0 → risen ≡ rose_from F X x p
    → record { pattern = p; tally = record { changed = changed; marked = marked; clipped = clipped; missing = missing; risen = risen } } ≡ settled_from F X mark x z over
unfolding settled_from
settled_as F X mark x z over p changed marked clipped missing risen pp ch ma cl mi ri = rw (ri, cl, ch, ma, mi, pp) refl

pub settled_by_lem : (F X : ℕ) (x : Method) (mark w n o z : ℕ) → (magnitude F X w < infinity F X → n ≡ new_magnitude F X x 0 (magnitude F X w))
    → (magnitude F X w < infinity F X → o ≡ over F X x w) → z ≡ cond (ltb (magnitude F X w) (infinity F X)) (w - magnitude F X w + n) w
    → settled_from F X mark w z o ≡ settled_by F X x mark 0 w
unfolding settled_from settled_by
settled_by_lem F X x mark w n o z nn oo zz = rw (by_clip F X x mark w n o z nn oo zz, by_word F X x mark w n o z nn oo zz) refl
