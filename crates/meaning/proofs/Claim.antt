-- Demand 3 for lists of trims, for every width. A list keeps whatever each of its methods keeps. Roundings keep a reading inside the bracket of the largest unit
-- around the original; methods 0 to 3 keep it agreeing with the original above the longest tail.
use mathlib.Core.Path.{◌≡◌, refl, sym, ap, ◌∙◌}
use mathlib.Core.Logic.{◌⊎◌, inl, inr, ◌≢◌}
use mathlib.Core.Bool.{Bool, true, false, true≢false}
use mathlib.Core.List.{List, [], ◌∷◌}
use Prim.Native.Nat.{ℕ, max, ◌+◌, ◌-◌, ◌*◌, ◌^◌, ◌≤◌, ◌<◌, zero-le, suc-le-suc}
use native.Mathlib.Nat.{le_refl, le_of_eq, le_trans, lt_of_lt_of_le, max-eq_left, max-eq_right, max-zero, le-max_left, le-max_right, sub-le, not-suc-le-zero, le_of_mul-le-mul_right, mul-le-mul_left}
use native.Mathlib.Decide.{dec_le, dec_lt, ℕ_discrete}
use native.Mathlib.Omega.{arith}
use lib.ListN.{length, get_or}
use lib.Pow.{pow_pos, pow-add, pow_mono}
use Rattle.meaning.specs.Readings.{spacing_exp, spacing, size, sign, magnitude, infinity, position, distance}
use Rattle.meaning.specs.Methods.{Method, tail, round, absolute, digits, unit, new_magnitude, trimmable}
use Rattle.meaning.specs.Questions.{all}
use Rattle.meaning.specs.Calls.{Call, in_turn, accepted_calls, largest_unit}
use Rattle.meaning.specs.Claim.{rounds, changes_tail, one_kind, Kept, ListClaim}
use Rattle.meaning.proofs.Powers.{pow_le}
use Rattle.meaning.proofs.Sizes.{spacing_mono}
use Rattle.meaning.proofs.Patterns.{below_finite, position_distance}
use Rattle.meaning.proofs.Rounding.{Between, round_keeps, absolute_keeps}
use Rattle.meaning.proofs.Bracket.{Bracket, bracket, mult_down}
use Rattle.meaning.proofs.Tails.{Agree, agree_up, agree_close, same_spacing, tail_changed_agree}
use Rattle.meaning.proofs.Accepted.{Ready, and_first, and_second}
use Rattle.meaning.proofs.OneReading.{Keeps, Good, is_trimmable, trimmable_present, trimmable_below}
use Rattle.meaning.proofs.Lists.{Every, every_map, Via, via_good, via_missing, via_present, via_other, length-in_turn, in_turn_via, in_turn_none, calls_ready}

module _ (F X : ℕ) where
  -- ---- the method of the list whose unit is the largest

  record Top (R : Method → Type 0) (xs : List Method) (m : ℕ) : Type 0 where
    method : Method
    has : R method
    is : largest_unit F xs m ≡ unit F method m
    most : Every (λ z. R z × (unit F z m ≤ unit F method m)) xs
    elsewhere : (n : ℕ) → unit F method n ≤ largest_unit F xs n

  largest_first : (x : Method) (xs : List Method) (m : ℕ) → largest_unit F (x ∷ xs) m ≡ max (unit F x m) (largest_unit F xs m)
  unfolding largest_unit
  largest_first x xs m = refl

  largest_only : (x : Method) (m : ℕ) → largest_unit F (x ∷ []) m ≡ unit F x m
  unfolding largest_unit
  largest_only x m = max-zero (unit F x m)

  top : (R : Method → Type 0) (m : ℕ) (xs : List Method) → 0 < length xs → Every R xs → Top R xs m
  top R m [] h e = absurd (not-suc-le-zero h)
  top R m (x ∷ []) h e =
      record {
        method = x;
        has = e.0;
        is = largest_only x m;
        most = ((e.0, le_refl (unit F x m)), tt);
        elsewhere = λ n. rw (largest_only x n) (le_refl (unit F x n));
      }
  top R m (x ∷ y ∷ ys) h e = go (top R m (y ∷ ys) (suc-le-suc zero-le) e.1)
    where
      go : Top R (y ∷ ys) m → Top R (x ∷ y ∷ ys) m
      go t = pick (dec_le (unit F x m) (unit F t.method m))
        where
          pick : Dec (unit F x m ≤ unit F t.method m) → Top R (x ∷ y ∷ ys) m
          pick (yes l) =
              record {
                method = t.method;
                has = t.has;
                is = rw (largest_first x (y ∷ ys) m, t.is) (max-eq_right l);
                most = ((e.0, l), t.most);
                elsewhere = λ n. rw (largest_first x (y ∷ ys) n) (le_trans (t.elsewhere n) (le-max_right (unit F x n) (largest_unit F (y ∷ ys) n)));
              }
          pick (no l) =
              let k : unit F t.method m ≤ unit F x m = omega arith in
              record {
                method = x;
                has = e.0;
                is = rw (largest_first x (y ∷ ys) m, t.is) (max-eq_left k);
                most = ((e.0, le_refl (unit F x m)), every_map (y ∷ ys) (λ z a. (a.0, le_trans a.1 k)) t.most);
                elsewhere = λ n. rw (largest_first x (y ∷ ys) n) (le-max_left (unit F x n) (largest_unit F (y ∷ ys) n));
              }

  -- A property of magnitudes that every method of the list keeps and that m has; what has it lies less than the largest unit from m, and has no smaller one.
  record Shelter (xs : List Method) (m : ℕ) : Type 1 where
    within : ℕ → Type 0
    kept : Every (Keeps F X within) xs
    start : within m
    close : (y : ℕ) → within y → distance (size F m) (size F y) < largest_unit F xs m
    grown : (y : ℕ) → within y → largest_unit F xs m ≤ largest_unit F xs y

  -- ---- roundings

  module _ (m Q : ℕ) (b : Bracket F m Q) where
    -- a rounding whose unit is at most 2 ^ Q keeps a magnitude in the bracket
    bracket_keeps : (z : Method) → rounds z ≡ true → unit F z m ≤ 2 ^ Q → Keeps F X (Between b.low b.high) z
    unfolding rounds unit spacing
    bracket_keeps (tail c k) p l = absurd (true≢false (sym p))
    bracket_keeps (round k) p l = λ turn v f h.
        round_keeps F X b.low b.high turn v h.0 h.1 f k
        (b.low_point.tail (F - k) (sub-le F k) fits) (b.high_point.tail (F - k) (sub-le F k) fits)
      where
        fits : F - k + spacing_exp F m ≤ Q
        fits = pow_le (rw (pow-add 2 (F - k) (spacing_exp F m)) l)
    bracket_keeps (absolute q) p l = λ turn v f h.
        absolute_keeps F X b.low b.high turn v h.0 h.1 f q
        (mult_down Q q (pow_le l) b.low_point.grid) (mult_down Q q (pow_le l) b.high_point.grid)
    bracket_keeps (digits n) p l = absurd (true≢false (sym p))

    -- and at a magnitude in the bracket the rounding whose unit is 2 ^ Q has no smaller one
    bracket_grows : (z : Method) → rounds z ≡ true → unit F z m ≡ 2 ^ Q → (y : ℕ) → b.low ≤ y → unit F z m ≤ unit F z y
    unfolding rounds unit spacing
    bracket_grows (tail c k) p e y h = absurd (true≢false (sym p))
    bracket_grows (round k) p e y h = mul-le-mul_left (2 ^ (F - k)) (pow_mono (le_trans (b.spaced fits) (spacing_mono F h)))
      where
        fits : Q - spacing_exp F m ≤ F
        fits =
            let l : Q ≤ F - k + spacing_exp F m = pow_le (rw (pow-add 2 (F - k) (spacing_exp F m)) (le_of_eq (sym e))) in
            omega arith
    bracket_grows (absolute q) p e y h = le_refl (2 ^ q)
    bracket_grows (digits n) p e y h = absurd (true≢false (sym p))

  -- the unit of a rounding is a power of two
  rounding_unit : (x : Method) → rounds x ≡ true → (m : ℕ) → (Q : ℕ) × (unit F x m ≡ 2 ^ Q)
  unfolding rounds unit spacing
  rounding_unit (tail c k) p m = absurd (true≢false (sym p))
  rounding_unit (round k) p m = (F - k + spacing_exp F m, sym (pow-add 2 (F - k) (spacing_exp F m)))
  rounding_unit (absolute q) p m = (q, refl)
  rounding_unit (digits n) p m = absurd (true≢false (sym p))

  roundings : (m : ℕ) (xs : List Method) → 0 < length xs → Every (λ x. rounds x ≡ true) xs → Shelter xs m
  roundings m xs n e =
      record {
        within = Between b.low b.high;
        kept = every_map xs (λ z h. bracket_keeps m Q.0 b z h.0 (rw Q.1 at h.1)) t.most;
        start = (b.under, b.over);
        close = λ y h. rw (t.is, Q.1) (b.close y h.0 h.1);
        grown = λ y h. rw t.is (le_trans (bracket_grows m Q.0 b t.method t.has Q.1 y h.0) (t.elsewhere y));
      }
    where
      t : Top (λ x. rounds x ≡ true) xs m
      t = top (λ x. rounds x ≡ true) m xs n e

      Q : (Q : ℕ) × (unit F t.method m ≡ 2 ^ Q)
      Q = rounding_unit t.method t.has m

      b : Bracket F m Q.0
      b = bracket F m Q.0

  -- ---- methods 0 to 3

  -- the tail of such a method, and its unit
  record Tail (z : Method) : Type 0 where
    bits : ℕ
    fits : bits ≤ F
    unit_is : (m : ℕ) → unit F z m ≡ 2 ^ bits * 2 ^ spacing_exp F m
    agree : (turn v : ℕ) → Agree bits (new_magnitude F X z turn v) v

  tail_of : (z : Method) → changes_tail z ≡ true → Tail z
  unfolding changes_tail unit spacing new_magnitude
  tail_of (tail c k) p = record { bits = F - k; fits = sub-le F k; unit_is = λ m. refl; agree = λ turn v. tail_changed_agree c turn (F - k) v }
  tail_of (round k) p = absurd (true≢false (sym p))
  tail_of (absolute q) p = absurd (true≢false (sym p))
  tail_of (digits n) p = absurd (true≢false (sym p))

  tails : (m : ℕ) (xs : List Method) → 0 < length xs → Every (λ x. changes_tail x ≡ true) xs → Shelter xs m
  unfolding spacing
  tails m xs n e =
      record {
        within = λ y. Agree u.bits y m;
        kept = every_map xs (λ z h. keeps z (tail_of z h.0) h.1) t.most;
        start = refl;
        close = λ y h. rw (t.is, u.unit_is m) (agree_close F m y u.bits u.fits (sym h));
        grown = λ y h. rw t.is (le_trans (le_of_eq (u.unit_is m ∙ rw (same_spacing F m y u.bits u.fits (sym h)) (sym (u.unit_is y)))) (t.elsewhere y));
      }
    where
      t : Top (λ x. changes_tail x ≡ true) xs m
      t = top (λ x. changes_tail x ≡ true) m xs n e

      u : Tail t.method
      u = tail_of t.method t.has

      keeps : (z : Method) (g : Tail z) → unit F z m ≤ unit F t.method m → Keeps F X (λ y. Agree u.bits y m) z
      keeps z g h turn v f a =
          let l : g.bits ≤ u.bits = pow_le (le_of_mul-le-mul_right (rw (g.unit_is m, u.unit_is m) at h) (pow_pos (spacing_exp F m))) in
          agree_up (new_magnitude F X z turn v) v g.bits u.bits l (g.agree turn v) ∙ a

  -- ---- one reading

  shelter : (m : ℕ) (xs : List Method) → 0 < length xs → Every (λ x. rounds x ≡ true) xs ⊎ Every (λ x. changes_tail x ≡ true) xs → Shelter xs m
  shelter m xs n (inl e) = roundings m xs n e
  shelter m xs n (inr e) = tails m xs n e

  reading : (xs : List Method) → Every Ready xs → 0 < length xs → Every (λ x. rounds x ≡ true) xs ⊎ Every (λ x. changes_tail x ≡ true) xs
      → (mark w v : ℕ) → Via F X xs mark w v → Kept F X mark xs w v
  reading xs r n k mark w v e =
      record {
        mark_stays = (λ p. still p (ℕ_discrete w mark), via_missing F X xs mark w v e);
        others_stay = λ o. other (ℕ_discrete w mark) (dec_lt (magnitude F X w) (infinity F X)) o;
        finite_stays = λ o. below_finite F X v (good o).below;
        sign_stays = signs (ℕ_discrete w mark) (dec_lt (magnitude F X w) (infinity F X));
        near = λ o. near o;
        near_left = λ o. lt_of_lt_of_le (near o) (s.grown (magnitude F X v) (good o).holds);
      }
    where
      s : Shelter xs (magnitude F X w)
      s = shelter (magnitude F X w) xs n k

      still : v ≡ mark → Dec (w ≡ mark) → w ≡ mark
      still p (yes q) = q
      still p (no q) = absurd (via_present F X xs mark w v e q p)

      kept : w ≢ mark → magnitude F X w < infinity F X → Good F X s.within mark (sign F X w) v
      kept p f = via_good F X s.within xs r s.kept mark (sign F X w) w v e (record { here = p; below = f; signed = refl; holds = s.start })

      good : trimmable F X mark w ≡ true → Good F X s.within mark (sign F X w) v
      good o = kept (trimmable_present F X mark w o) (trimmable_below F X mark w o)

      near : trimmable F X mark w ≡ true → distance (position F X w) (position F X v) < largest_unit F xs (magnitude F X w)
      near o =
          rw (position_distance F X w v (trimmable_below F X mark w o) (good o).below (good o).signed) (s.close (magnitude F X v) (good o).holds)

      other : Dec (w ≡ mark) → Dec (magnitude F X w < infinity F X) → trimmable F X mark w ≡ false → v ≡ w
      other (yes p) f o = via_missing F X xs mark w v e p ∙ sym p
      other (no p) (no f) o = via_other F X xs mark w v e f
      other (no p) (yes f) o = absurd (true≢false (sym (is_trimmable F X mark w p f) ∙ o))

      signs : Dec (w ≡ mark) → Dec (magnitude F X w < infinity F X) → sign F X v ≡ sign F X w
      signs (yes p) f = ap (λ (z : ℕ). sign F X z) (via_missing F X xs mark w v e p ∙ sym p)
      signs (no p) (yes f) = (kept p f).signed
      signs (no p) (no f) = ap (λ (z : ℕ). sign F X z) (via_other F X xs mark w v e f)

-- ---- the list

all_every : (f : Method → Bool) (xs : List Method) → all f xs ≡ true → Every (λ x. f x ≡ true) xs
unfolding all
all_every f [] e = tt
all_every f (x ∷ xs) e = (and_first (f x) (all f xs) e, all_every f xs (and_second (f x) (all f xs) e))

one_kind_lem : (xs : List Method) → one_kind xs ≡ true → Every (λ x. rounds x ≡ true) xs ⊎ Every (λ x. changes_tail x ≡ true) xs
unfolding one_kind
one_kind_lem xs e = go (all rounds xs) refl (all changes_tail xs) refl
  where
    go : (a : Bool) → all rounds xs ≡ a → (b : Bool) → all changes_tail xs ≡ b → Every (λ x. rounds x ≡ true) xs ⊎ Every (λ x. changes_tail x ≡ true) xs
    go true p b q = inl (all_every rounds xs p)
    go false p true q = inr (all_every changes_tail xs q)
    go false p false q = absurd (true≢false (sym e ∙ rw (p, q) refl))

module _ (F X : ℕ) where
  pub list_claim : (cs : List Call) (mark : ℕ) (ws : List ℕ) → ListClaim F X cs mark ws
  list_claim cs mark ws =
      record {
        none_accepted = in_turn_none F X cs mark ws;
        as_long = length-in_turn F X cs mark ws;
        each_place = λ n k i h.
            reading F X (accepted_calls F X cs) (calls_ready F X cs) n (one_kind_lem (accepted_calls F X cs) k) mark (get_or ws i 0) (get_or (in_turn F X cs mark ws) i 0) (in_turn_via F X cs mark ws i h);
      }
