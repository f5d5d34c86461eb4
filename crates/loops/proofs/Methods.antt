-- The loops' outcomes are the methods': what methods 0 to 3 put into the tail, method 4 with no tail, and grooming's filling from one reading to the next. For every width.
use mathlib.Core.Path.{◌≡◌, refl, sym, ap, ap₂, ◌∙◌, fun_ext}
use mathlib.Core.Logic.{◌≢◌}
use mathlib.Core.Bool.{Bool, true, false, cond}
use mathlib.Core.List.{List, [], ◌∷◌}
use Prim.Native.Nat.{ℕ, zero, suc, ◌+◌, ◌-◌, ◌%◌, ◌^◌, ◌≤◌, ◌<◌, zero-le}
use native.Mathlib.Nat.{le_refl, add-zero, sub_self}
use native.Mathlib.Numerals.{add-one}
use native.Mathlib.Decide.{ℕ_discrete}
use native.Mathlib.Omega.{arith}
use borrow.Author.Tests.{eq-eqb, ne_eqb, lt-leb, le-leb}
use lib.Dec.{eqb}
use lib.ListN.{length}
use lib.Pow.{pow-lt}
use Rattle.meaning.specs.Readings.{magnitude, infinity}
use Rattle.meaning.specs.Methods.{Method, tail, shave, set, groom, halfshave, round, absolute, digits, shaved, tail_set, halfshaved, rounded, tail_changed, clips, new_magnitude, trimmable, turn_after}
use Rattle.meaning.proofs.Rounding.{round_within}
use Rattle.asking.specs.Asked.{method_by}
use Rattle.reading.specs.Left.{Tally, Settled, wanted, wanted_by, over, tail_added, settled_by, settled_tail}
use Rattle.reading.specs.Tails.{half_unit, Constants, constants, TailOf}
use Rattle.reading.proofs.Counted.{on_grid}
use Rattle.reading.proofs.Words.{cond_le, wanted_sum}
use Rattle.reading.proofs.Settled.{settled_by_lem}
use Rattle.reading.proofs.Tails.{made, zero_cut}
use Rattle.loops.specs.Tallies.{plus}
use Rattle.loops.specs.Walk.{state_at, walked_by, tallied_by, stays, walked, tallied}
use Rattle.loops.specs.Methods.{add_by, add_at, keep_of, Suits, settled_with, filling_after, next_with}

-- ---- one walk as another, whose states h turns into its own

module _ (next other : ℕ → ℕ → ℕ) (f g : ℕ → ℕ → Settled) (h : ℕ → ℕ) (moves : (w p : ℕ) → next w (h p) ≡ h (other w p)) (same : (p w : ℕ) → f (h p) w ≡ g p w) where
  pub as_walked : (p : ℕ) (ws : List ℕ) → walked_by next f (h p) ws ≡ walked_by other g p ws
  as_walked p [] = refl
  as_walked p (w ∷ ws) =
      ap₂ (λ (y : Settled) (l : List ℕ). y.pattern ∷ l) (same p w) (ap (λ (s : ℕ). walked_by next f s ws) (moves w p) ∙ as_walked (other w p) ws)

  pub as_tallied : (p : ℕ) (ws : List ℕ) → tallied_by next f (h p) ws ≡ tallied_by other g p ws
  as_tallied p [] = refl
  as_tallied p (w ∷ ws) =
      ap₂ (λ (y : Settled) (t : Tally). plus y.tally t) (same p w) (ap (λ (s : ℕ). tallied_by next f s ws) (moves w p) ∙ as_tallied (other w p) ws)

-- ---- methods 0 to 3: nothing, all ones, or a one and zeros

-- nothing added is the cut
added_none : (t m : ℕ) → tail_added t 0 m ≡ shaved t m
unfolding tail_added
added_none t m = go (ℕ_discrete m 0)
  where
    go : Dec (m ≡ 0) → tail_added t 0 m ≡ shaved t m
    go (yes z) = rw (eq-eqb m 0 z) (zero_cut t m z)
    go (no z) = rw (ne_eqb m 0 z, add-zero) refl

added_ones : (t m : ℕ) → tail_added t (2 ^ t - 1) m ≡ tail_set t m
unfolding tail_added tail_set
added_ones t m = refl

no_tail : (m : ℕ) → shaved 0 m ≡ m
unfolding shaved
no_tail m = omega arith

added_half : (t m : ℕ) → tail_added t (half_unit t) m ≡ halfshaved t m
unfolding tail_added halfshaved
added_half zero m = added_none 0 m ∙ no_tail m
added_half (suc t) m = refl

half_fits : (t : ℕ) → half_unit t ≤ 2 ^ t - 1
half_fits zero = omega arith
half_fits (suc t) = omega (arith, pow-lt {i = t} {j = suc t} (omega arith))

-- what they put there is no longer than the tail
pub add_fits : {F : ℕ} {c : Constants} (method : ℕ) → TailOf F c → add_by method c ≤ c.ones
unfolding add_by
add_fits {F} {c} method h =
    let half : c.half ≤ c.ones = omega (arith, h.is_ones, h.is_half, half_fits c.bits) in
    cond_le (eqb method 1) c.ones (cond (eqb method 3) c.half 0) c.ones (le_refl c.ones) (cond_le (eqb method 3) c.half 0 c.ones half zero-le)

module _ (F X : ℕ) where
  module _ (n mark w : ℕ) where
    tail_same : (x : Method) (add turn : ℕ) → tail_added (F - n) add (magnitude F X w) ≡ new_magnitude F X x turn (magnitude F X w) → 0 ≡ over F X x w
        → settled_tail F X (F - n) add mark w ≡ settled_by F X x mark turn w
    unfolding settled_tail settled_by wanted_by
    tail_same x add turn e o = rw (e, o) refl

    pub tail_by : (method : ℕ) → method < 4 → method ≢ 2 → settled_tail F X (F - n) (add_by method (constants F n)) mark w ≡ settled_by F X (method_by method n) mark 0 w
    unfolding add_by constants method_by new_magnitude tail_changed over clips
    tail_by zero h d = tail_same (tail shave n) 0 0 (added_none (F - n) (magnitude F X w)) refl
    tail_by (suc zero) h d = tail_same (tail set n) (2 ^ (F - n) - 1) 0 (added_ones (F - n) (magnitude F X w)) refl
    tail_by (suc (suc zero)) h d = absurd (d refl)
    tail_by (suc (suc (suc zero))) h d = tail_same (tail halfshave n) (half_unit (F - n)) 0 (added_half (F - n) (magnitude F X w)) refl
    tail_by (suc (suc (suc (suc m)))) h d = absurd (omega arith)

    groom_by : (turn : ℕ) → settled_tail F X (F - n) (add_at 0 (constants F n).ones turn) mark w ≡ settled_by F X (tail groom n) mark turn w
    unfolding add_at constants new_magnitude tail_changed over clips
    groom_by turn = go (ℕ_discrete (turn % 2) 0)
      where
        go : Dec (turn % 2 ≡ 0) → settled_tail F X (F - n) (add_at 0 (constants F n).ones turn) mark w ≡ settled_by F X (tail groom n) mark turn w
        go (yes z) = tail_same (tail groom n) (add_at 0 (2 ^ (F - n) - 1) turn) turn (rw (eq-eqb (turn % 2) 0 z) (added_none (F - n) (magnitude F X w))) refl
        go (no z) = tail_same (tail groom n) (add_at 0 (2 ^ (F - n) - 1) turn) turn (rw (ne_eqb (turn % 2) 0 z) (added_ones (F - n) (magnitude F X w))) refl

  -- method 4 with no tail leaves a reading
  none_by : (mark w : ℕ) → settled_tail F X 0 0 mark w ≡ settled_by F X (round F) mark 0 w
  unfolding settled_tail over clips
  none_by mark w =
      let m = magnitude F X w in
      let e : rounded (F - F) m ≡ m = rw (sub_self F) (on_grid 0 m (no_tail m)) in
      settled_by_lem F X (round F) mark w (tail_added 0 0 m) 0 (wanted F X w (tail_added 0 0 m))
      (λ f. added_none 0 m ∙ no_tail m ∙ sym (round_within F X F 0 m (rw e f) ∙ e))
      (λ f. rw (e, lt-leb (infinity F X) m f) refl)
      (sym (wanted_sum F X w (tail_added 0 0 m)))

-- ---- what each loop makes of a reading is what the method's number and setting say

pub suits_tail : {F most method n : ℕ} {c : Constants} → Suits F most method n c → TailOf F c
suits_tail {F} {most} {method} {n} {c} h = made F (keep_of F method n) c h.tail

pub suits_keep : {F most method n : ℕ} {c : Constants} → Suits F most method n c → method ≤ 4 → c ≡ constants F n
unfolding keep_of
suits_keep {F} {most} {method} {n} {c} h l = h.tail ∙ rw (le-leb method 4 l) refl

module _ (F X mark : ℕ) where
  pub by_none : {b : ℕ} → b ≡ 0 → (w : ℕ) → settled_tail F X b 0 mark w ≡ settled_by F X (round (F - b)) mark 0 w
  by_none {b} e w = let d : F - 0 ≡ F = omega arith in rw (e, d) (none_by F X mark w)

  module _ (method n : ℕ) where
    pub by_tail : {c : Constants} {a : ℕ} → c ≡ constants F n → method < 4 → method ≢ 2 → a ≡ add_by method c → (w : ℕ) → settled_tail F X c.bits a mark w ≡ settled_by F X (method_by method n) mark 0 w
    unfolding constants
    by_tail {c} {a} e h d f w = rw (f, e) (tail_by F X n mark w method h d)

    pub by_round : {c : Constants} → c ≡ constants F n → n ≤ F → method ≡ 4 → (w : ℕ) → settled_by F X (round (F - c.bits)) mark 0 w ≡ settled_by F X (method_by method n) mark 0 w
    unfolding constants method_by
    by_round {c} e h m w = let d : F - (F - n) ≡ n = omega arith in rw (e, d, m) refl

    pub by_absolute : method ≡ 5 → (w : ℕ) → settled_by F X (absolute n) mark 0 w ≡ settled_by F X (method_by method n) mark 0 w
    unfolding method_by
    by_absolute m w = rw m refl

    pub by_digits : method ≡ 6 → (w : ℕ) → settled_by F X (digits n) mark 0 w ≡ settled_by F X (method_by method n) mark 0 w
    unfolding method_by
    by_digits m w = rw m refl

-- and so over an array
pub over_all : {t : Tally} {ys : List ℕ} (ws : List ℕ) (g h : ℕ → Settled) → ((w : ℕ) → g w ≡ h w) → (t ≡ tallied g ws) × (ys ≡ walked g ws) → (t ≡ tallied h ws) × (ys ≡ walked h ws)
over_all ws g h e r = let f = fun_ext e in (r.0 ∙ ap (λ (k : ℕ → Settled). tallied k ws) f, r.1 ∙ ap (λ (k : ℕ → Settled). walked k ws) f)

-- ---- grooming's filling: nothing and all ones, in turn

pub add_below : (even odd i n : ℕ) → even ≤ n → odd ≤ n → add_at even odd i ≤ n
unfolding add_at
add_below even odd i n h k = cond_le (eqb (i % 2) 0) even odd n h k

pub add_next : (ones even odd i : ℕ) → odd + even ≡ ones → add_at even odd (i + 1) ≡ ones - add_at even odd i
unfolding add_at
add_next ones even odd i h = go (ℕ_discrete (i % 2) 0)
  where
    go : Dec (i % 2 ≡ 0) → cond (eqb ((i + 1) % 2) 0) even odd ≡ ones - cond (eqb (i % 2) 0) even odd
    go (yes e) = rw (eq-eqb (i % 2) 0 e, ne_eqb ((i + 1) % 2) 0 (λ z. omega arith)) (omega arith)
    go (no e) = rw (ne_eqb (i % 2) 0 e, eq-eqb ((i + 1) % 2) 0 (omega arith)) (omega arith)

-- what a reading leaves for the next turn is what that turn gets
pub filling_after_lem : (F X mark w ones even odd turn : ℕ) → odd + even ≡ ones → filling_after F X ones mark w (add_at even odd turn) ≡ add_at even odd (turn_after F X mark w turn)
unfolding filling_after turn_after
filling_after_lem F X mark w ones even odd turn h = go (trimmable F X mark w)
  where
    go : (b : Bool) → cond b (ones - add_at even odd turn) (add_at even odd turn) ≡ add_at even odd (cond b (suc turn) turn)
    go true = sym (ap (add_at even odd) (sym (add-one turn)) ∙ add_next ones even odd turn h)
    go false = refl

-- ---- any method, by its number

module _ (F method n : ℕ) where
  -- the filling at a turn
  abbrev pub filling_at : ℕ → ℕ
  filling_at turn = cond (eqb method 2) (add_at 0 (constants F n).ones turn) 0

-- a state that never moves
pub stays_at : (s : ℕ) (ws : List ℕ) (k : ℕ) → s ≡ state_at stays s ws k
stays_at s ws zero = refl
stays_at s [] (suc k) = refl
stays_at s (w ∷ ws) (suc k) = stays_at s ws k

module _ (F X method n mark : ℕ) where
  -- methods other than grooming don't look at the turn
  pub turnless : method ≢ 2 → (turn w : ℕ) → settled_by F X (method_by method n) mark 0 w ≡ settled_by F X (method_by method n) mark turn w
  unfolding settled_by wanted_by new_magnitude tail_changed method_by
  turnless d turn w = rw (ne_eqb method 2 d) (go (eqb method 0) (eqb method 1) (eqb method 3) (eqb method 4) (eqb method 5))
    where
      by : Bool → Bool → Bool → Bool → Bool → Method
      by a b c d e = cond a (tail shave n) (cond b (tail set n) (cond c (tail halfshave n) (cond d (round n) (cond e (absolute n) (digits n)))))

      go : (a b c d e : Bool) → settled_by F X (by a b c d e) mark 0 w ≡ settled_by F X (by a b c d e) mark turn w
      go true b c d e = refl
      go false true c d e = refl
      go false false true d e = refl
      go false false false true e = refl
      go false false false false true = refl
      go false false false false false = refl

  is_groom : method ≡ 2 → tail groom n ≡ method_by method n
  unfolding method_by
  is_groom e = rw e refl

  -- one reading, groomed
  pub groom_at : method ≡ 2 → (c : Constants) → c ≡ constants F n → (turn w : ℕ) {a : ℕ} → a ≡ add_at 0 c.ones turn → settled_tail F X c.bits a mark w ≡ settled_by F X (method_by method n) mark turn w
  unfolding constants
  groom_at e c m turn w f = rw (f, m) (groom_by F X n mark w turn ∙ ap (λ (x : Method). settled_by F X x mark turn w) (is_groom e))

  filling_next : (w turn : ℕ) → next_with F X method n mark w (filling_at F method n turn) ≡ filling_at F method n (turn_after F X mark w turn)
  unfolding next_with
  filling_next w turn = go (eqb method 2)
    where
      go : (b : Bool) → cond b (filling_after F X (constants F n).ones mark w (cond b (add_at 0 (constants F n).ones turn) 0)) (cond b (add_at 0 (constants F n).ones turn) 0)
          ≡ cond b (add_at 0 (constants F n).ones (turn_after F X mark w turn)) 0
      go true = filling_after_lem F X mark w (constants F n).ones 0 (constants F n).ones turn (omega arith)
      go false = refl

  filling_same : (turn w : ℕ) → settled_with F X method n mark (filling_at F method n turn) w ≡ settled_by F X (method_by method n) mark turn w
  unfolding settled_with
  filling_same turn w = go (ℕ_discrete method 2)
    where
      go : Dec (method ≡ 2) → settled_with F X method n mark (filling_at F method n turn) w ≡ settled_by F X (method_by method n) mark turn w
      go (yes e) = rw (eq-eqb method 2 e) (groom_by F X n mark w turn ∙ ap (λ (x : Method). settled_by F X x mark turn w) (is_groom e))
      go (no d) = rw (ne_eqb method 2 d) (turnless d turn w)

  filling_start : 0 ≡ filling_at F method n 0
  unfolding add_at
  filling_start = go (eqb method 2)
    where
      go : (b : Bool) → 0 ≡ cond b (add_at 0 (constants F n).ones 0) 0
      go true = refl
      go false = refl

  -- an array from its first turn on is walked as the method says
  pub whole_walked : (ws : List ℕ) → walked_by (next_with F X method n mark) (settled_with F X method n mark) 0 ws ≡ walked_by (turn_after F X mark) (settled_by F X (method_by method n) mark) 0 ws
  whole_walked ws =
      ap (λ (s : ℕ). walked_by (next_with F X method n mark) (settled_with F X method n mark) s ws) filling_start
      ∙ as_walked (next_with F X method n mark) (turn_after F X mark) (settled_with F X method n mark) (settled_by F X (method_by method n) mark) (filling_at F method n) filling_next filling_same 0 ws

  pub whole_tallied : (ws : List ℕ) → tallied_by (next_with F X method n mark) (settled_with F X method n mark) 0 ws ≡ tallied_by (turn_after F X mark) (settled_by F X (method_by method n) mark) 0 ws
  whole_tallied ws =
      ap (λ (s : ℕ). tallied_by (next_with F X method n mark) (settled_with F X method n mark) s ws) filling_start
      ∙ as_tallied (next_with F X method n mark) (turn_after F X mark) (settled_with F X method n mark) (settled_by F X (method_by method n) mark) (filling_at F method n) filling_next filling_same 0 ws

  -- ---- a part of it: groomed, or by a method that doesn't look at the state

  module _ (e : method ≡ 2) (c : Constants) (made : c ≡ constants F n) (s : ℕ) (ws : List ℕ) where
    groom_next : filling_after F X c.ones mark ≡ next_with F X method n mark
    unfolding next_with
    groom_next = fun_ext (λ w. fun_ext (λ s. rw (eq-eqb method 2 e, made) refl))

    groom_settled : (λ s w. settled_tail F X c.bits s mark w) ≡ settled_with F X method n mark
    unfolding settled_with constants
    groom_settled = fun_ext (λ s. fun_ext (λ w. rw (eq-eqb method 2 e, made) refl))

    pub groom_tallied : tallied_by (filling_after F X c.ones mark) (λ s w. settled_tail F X c.bits s mark w) s ws ≡ tallied_by (next_with F X method n mark) (settled_with F X method n mark) s ws
    groom_tallied = ap₂ (λ (next : ℕ → ℕ → ℕ) (f : ℕ → ℕ → Settled). tallied_by next f s ws) groom_next groom_settled

    pub groom_walked : walked_by (filling_after F X c.ones mark) (λ s w. settled_tail F X c.bits s mark w) s ws ≡ walked_by (next_with F X method n mark) (settled_with F X method n mark) s ws
    groom_walked = ap₂ (λ (next : ℕ → ℕ → ℕ) (f : ℕ → ℕ → Settled). walked_by next f s ws) groom_next groom_settled

    pub groom_state : state_at (filling_after F X c.ones mark) s ws (length ws) ≡ state_at (next_with F X method n mark) s ws (length ws)
    groom_state = ap (λ (next : ℕ → ℕ → ℕ). state_at next s ws (length ws)) groom_next

  module _ (d : method ≢ 2) (s : ℕ) (ws : List ℕ) where
    other_next : (w s : ℕ) → next_with F X method n mark w s ≡ s
    unfolding next_with
    other_next w s = rw (ne_eqb method 2 d) refl

    other_settled : (s w : ℕ) → settled_with F X method n mark s w ≡ settled_by F X (method_by method n) mark 0 w
    unfolding settled_with
    other_settled s w = rw (ne_eqb method 2 d) refl

    pub other_tallied : tallied (settled_by F X (method_by method n) mark 0) ws ≡ tallied_by (next_with F X method n mark) (settled_with F X method n mark) s ws
    other_tallied =
        sym (as_tallied (next_with F X method n mark) stays (settled_with F X method n mark) (λ p w. settled_by F X (method_by method n) mark 0 w) (λ p. s) (λ w p. other_next w s) (λ p w. other_settled s w) 0 ws)

    pub other_walked : walked (settled_by F X (method_by method n) mark 0) ws ≡ walked_by (next_with F X method n mark) (settled_with F X method n mark) s ws
    other_walked =
        sym (as_walked (next_with F X method n mark) stays (settled_with F X method n mark) (λ p w. settled_by F X (method_by method n) mark 0 w) (λ p. s) (λ w p. other_next w s) (λ p w. other_settled s w) 0 ws)

    pub other_state : s ≡ state_at (next_with F X method n mark) s ws (length ws)
    other_state =
        stays_at s ws (length ws) ∙ ap (λ (next : ℕ → ℕ → ℕ). state_at next s ws (length ws)) (sym (fun_ext (λ w. fun_ext (λ v. other_next w v))))
