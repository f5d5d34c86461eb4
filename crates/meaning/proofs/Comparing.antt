-- Document 02 (c): what "first" means, a pair less than the limit apart or with a side left out, and what the comparison says after a list of trims as in demand 3.
use mathlib.Core.Path.{◌≡◌, refl, sym, ap, ◌∙◌, subst}
use mathlib.Core.Logic.{◌↔◌}
use mathlib.Core.Bool.{Bool, true, false, cond, ◌&&◌, true≢false}
use mathlib.Core.List.{List, [], ◌∷◌, zip_with}
use Prim.Native.Nat.{ℕ, zero, suc, ◌+◌, ◌^◌, ◌≤◌, ◌<◌, zero-le}
use native.Mathlib.Nat.{add-zero, not-suc-le-zero, max-le}
use native.Mathlib.Decide.{dec_lt}
use native.Mathlib.Omega.{arith}
use borrow.Author.Tests.{eq-eqb, le-ltb, leb-true}
use lib.Dec.{ltb}
use lib.IntN.{ℤ}
use lib.ListN.{length, get_or}
use lib.Pow.{pow_mono}
use Rattle.meaning.specs.Readings.{magnitude, least_exp, position, distance}
use Rattle.meaning.specs.Methods.{Method, tail, round, absolute, digits, unit, trimmable}
use Rattle.meaning.specs.Questions.{accepted, ask, above, all, setting_in_range}
use Rattle.meaning.specs.Calls.{Call, answering, in_turn, accepted_calls, largest_unit}
use Rattle.meaning.specs.Claim.{rounds, one_kind, Kept, ListClaim}
use Rattle.meaning.specs.Comparing.{Place, none, at, first_from, read_up_to, beyond, compared, compare_questions, first_beyond, step_up_to, NothingBeyond}
use Rattle.meaning.proofs.Accepted.{and_first, and_second, and_false}
use Rattle.meaning.proofs.Claim.{list_claim}

-- ---- the first place of two lists where a test says yes

module _ (t : ℕ → ℕ → Bool) where
  -- place i is the first
  pub record First (xs ys : List ℕ) (i : ℕ) : Type 0 where
    pub inside : i < length xs
    pub itself : t (get_or xs i 0) (get_or ys i 0) ≡ true
    pub before : (j : ℕ) → j < i → t (get_or xs j 0) (get_or ys j 0) ≡ false

  -- no place is
  abbrev pub Nowhere : List ℕ → List ℕ → Type 0
  Nowhere xs ys = (i : ℕ) → i < length xs → t (get_or xs i 0) (get_or ys i 0) ≡ false

  -- what a walk from a place on has found
  unfoldable Seen : ℕ → List ℕ → List ℕ → Place → Type 0
  Seen place xs ys none = Nowhere xs ys
  Seen place xs ys (at j) = (k : ℕ) × (j ≡ place + k) × First xs ys k

  step : (place x y : ℕ) (xs ys : List ℕ) (b : Bool) → t x y ≡ b → (p : Place) → Seen (suc place) xs ys p → Seen place (x ∷ xs) (y ∷ ys) (cond b (at place) p)
  unfolding Seen
  step place x y xs ys true e p r = (0, sym (add-zero place), record { inside = omega arith; itself = e; before = λ j h. absurd (not-suc-le-zero h) })
  step place x y xs ys false e none r = each
    where
      each : Nowhere (x ∷ xs) (y ∷ ys)
      each zero h = e
      each (suc i) h = r i (omega arith)
  step place x y xs ys false e (at j) r =
      (suc r.0, r.1 ∙ omega arith, record { inside = omega (arith, r.2.inside); itself = r.2.itself; before = earlier })
    where
      earlier : (i : ℕ) → i < suc r.0 → t (get_or (x ∷ xs) i 0) (get_or (y ∷ ys) i 0) ≡ false
      earlier zero h = e
      earlier (suc i) h = r.2.before i (omega arith)

  seen : (place : ℕ) (xs ys : List ℕ) → length xs ≡ length ys → Seen place xs ys (first_from place (zip_with t xs ys))
  unfolding Seen first_from zip_with
  seen place [] ys l = λ i h. absurd (not-suc-le-zero h)
  seen place (x ∷ xs) [] l = absurd (omega (arith, l))
  seen place (x ∷ xs) (y ∷ ys) l = step place x y xs ys (t x y) refl (first_from (suc place) (zip_with t xs ys)) (seen (suc place) xs ys (omega (arith, l)))

  module _ (xs ys : List ℕ) (l : length xs ≡ length ys) where
    abbrev found : Place
    found = first_from 0 (zip_with t xs ys)

    -- what is beyond stands at no place where none is
    clash : (i : ℕ) → t (get_or xs i 0) (get_or ys i 0) ≡ true → t (get_or xs i 0) (get_or ys i 0) ≡ false → ⊥
    clash i e f = true≢false (sym e ∙ f)

    -- two first places are one
    same : (i k : ℕ) → First xs ys i → First xs ys k → i ≡ k
    same i k a b = go (dec_lt i k) (dec_lt k i)
      where
        go : Dec (i < k) → Dec (k < i) → i ≡ k
        go (yes h) d = absurd (clash i a.itself (b.before i h))
        go (no h) (yes g) = absurd (clash k b.itself (a.before k g))
        go (no h) (no g) = omega arith

    pub first_both : (i : ℕ) → (found ≡ at i) ↔ First xs ys i
    unfolding Seen
    first_both i = (λ e. to (subst (λ (p : Place). Seen 0 xs ys p) e (seen 0 xs ys l)), λ f. from f found (seen 0 xs ys l))
      where
        to : Seen 0 xs ys (at i) → First xs ys i
        to s = subst (λ (k : ℕ). First xs ys k) (omega (arith, s.1)) s.2

        from : First xs ys i → (p : Place) → Seen 0 xs ys p → p ≡ at i
        from f none s = absurd (clash i f.itself (s i f.inside))
        from f (at j) s = ap at (s.1 ∙ omega (arith, same s.0 i s.2 f))

    pub none_both : (found ≡ none) ↔ Nowhere xs ys
    unfolding Seen
    none_both = (λ e. subst (λ (p : Place). Seen 0 xs ys p) e (seen 0 xs ys l), λ n. from n found (seen 0 xs ys l))
      where
        from : Nowhere xs ys → (p : Place) → Seen 0 xs ys p → p ≡ none
        from n none s = refl
        from n (at j) s = absurd (clash s.0 s.2.itself (n s.0 s.2.inside))

-- ---- one pair

module _ (F X mark q : ℕ) where
  -- at most 2 ^ q apart is not beyond
  pub near_within : (w v : ℕ) → distance (position F X w) (position F X v) ≤ 2 ^ q → beyond F X mark q w v ≡ false
  unfolding beyond
  near_within w v h = rw (le-ltb (2 ^ q) (distance (position F X w) (position F X v)) h) (and_false (trimmable F X mark w && trimmable F X mark v))

  -- nor is a place with a side that is missing or not finite
  pub first_out : (w v : ℕ) → trimmable F X mark w ≡ false → beyond F X mark q w v ≡ false
  unfolding beyond
  first_out w v e = rw e refl

  -- the two sides may change places
  pub swapped : (w v : ℕ) → beyond F X mark q w v ≡ beyond F X mark q v w
  unfolding beyond distance
  swapped w v = go (trimmable F X mark w) (trimmable F X mark v)
    where
      far : ltb (2 ^ q) (distance (position F X w) (position F X v)) ≡ ltb (2 ^ q) (distance (position F X v) (position F X w))
      far = ap (λ (n : ℕ). ltb (2 ^ q) n) (omega arith)

      go : (a b : Bool) → (a && b && ltb (2 ^ q) (distance (position F X w) (position F X v))) ≡ (b && a && ltb (2 ^ q) (distance (position F X v) (position F X w)))
      go true true = far
      go true false = refl
      go false true = refl
      go false false = refl

-- ---- after a list of trims

module _ (F X : ℕ) where
  -- where no place is beyond, that is the answer
  none_answer : (mark : ℕ) (p : ℤ) (ws vs : List ℕ) → length ws ≡ length vs → setting_in_range F X 5 p ≡ true → Nowhere (beyond F X mark (above (least_exp F X) p)) ws vs
      → first_beyond F X mark p ws vs ≡ accepted (record { first = none; read = length ws })
  unfolding first_beyond compare_questions compared read_up_to answering ask
  none_answer mark p ws vs l r n = rw (eq-eqb (length ws) (length vs) l, r, (none_both (beyond F X mark (above (least_exp F X) p)) ws vs l).1 n) refl

  -- a reading that a list left less than a limit away, or as it was
  kept_within : (mark q w v : ℕ) (xs : List Method) → Kept F X mark xs w v → (trimmable F X mark w ≡ true → largest_unit F xs (magnitude F X w) ≤ 2 ^ q) → beyond F X mark q w v ≡ false
  kept_within mark q w v xs k u = go (trimmable F X mark w) refl
    where
      go : (b : Bool) → trimmable F X mark w ≡ b → beyond F X mark q w v ≡ false
      go true e = near_within F X mark q w v (omega (arith, k.near e, u e))
      go false e = first_out F X mark q w v e

  unmoved : (mark q w v : ℕ) → v ≡ w → beyond F X mark q w v ≡ false
  unfolding distance
  unmoved mark q w v e = rw e (near_within F X mark q w w (omega arith))

  after_list : (cs : List Call) (mark : ℕ) (p : ℤ) (ws : List ℕ) → setting_in_range F X 5 p ≡ true → one_kind (accepted_calls F X cs) ≡ true
      → ((i : ℕ) → i < length ws → trimmable F X mark (get_or ws i 0) ≡ true → largest_unit F (accepted_calls F X cs) (magnitude F X (get_or ws i 0)) ≤ 2 ^ above (least_exp F X) p)
      → first_beyond F X mark p ws (in_turn F X cs mark ws) ≡ accepted (record { first = none; read = length ws })
  after_list cs mark p ws r k u = none_answer mark p ws (in_turn F X cs mark ws) (sym c.as_long) r (places (accepted_calls F X cs) refl)
    where
      c : ListClaim F X cs mark ws
      c = list_claim F X cs mark ws

      places : (xs : List Method) → accepted_calls F X cs ≡ xs → Nowhere (beyond F X mark (above (least_exp F X) p)) ws (in_turn F X cs mark ws)
      places [] e i h = unmoved mark (above (least_exp F X) p) (get_or ws i 0) (get_or (in_turn F X cs mark ws) i 0) (ap (λ (l : List ℕ). get_or l i 0) (c.none_accepted e))
      places (x ∷ xs) e i h = kept_within mark (above (least_exp F X) p) (get_or ws i 0) (get_or (in_turn F X cs mark ws) i 0) (accepted_calls F X cs) (c.each_place (rw e (omega arith)) k i h) (u i h)

  -- steps of at most 2 ^ q are roundings, and have no larger unit at any magnitude
  step_rounds : (q : ℕ) (x : Method) → step_up_to q x ≡ true → rounds x ≡ true
  unfolding step_up_to rounds
  step_rounds q (tail c k) e = e
  step_rounds q (round k) e = refl
  step_rounds q (absolute s) e = refl
  step_rounds q (digits n) e = e

  step_unit : (q m : ℕ) (x : Method) → step_up_to q x ≡ true → unit F x m ≤ 2 ^ q
  unfolding step_up_to unit
  step_unit q m (tail c k) e = absurd (true≢false (sym e))
  step_unit q m (round k) e = absurd (true≢false (sym e))
  step_unit q m (absolute s) e = pow_mono (leb-true s q e)
  step_unit q m (digits n) e = zero-le

  steps_unit : (q m : ℕ) (xs : List Method) → all (step_up_to q) xs ≡ true → largest_unit F xs m ≤ 2 ^ q
  unfolding largest_unit all
  steps_unit q m [] e = zero-le
  steps_unit q m (x ∷ xs) e = max-le (step_unit q m x (and_first (step_up_to q x) (all (step_up_to q) xs) e)) (steps_unit q m xs (and_second (step_up_to q x) (all (step_up_to q) xs) e))

  steps_kind : (q : ℕ) (xs : List Method) → all (step_up_to q) xs ≡ true → all rounds xs ≡ true
  unfolding all
  steps_kind q [] e = refl
  steps_kind q (x ∷ xs) e = rw (step_rounds q x (and_first (step_up_to q x) (all (step_up_to q) xs) e)) (steps_kind q xs (and_second (step_up_to q x) (all (step_up_to q) xs) e))

  pub nothing_beyond : NothingBeyond F X
  unfolding one_kind
  nothing_beyond =
      record {
        units_up_to = after_list;
        steps_up_to = λ cs mark p ws r e.
            let xs = accepted_calls F X cs in
            let q = above (least_exp F X) p in
            after_list cs mark p ws r (rw (steps_kind q xs e) refl) (λ i h o. steps_unit q (magnitude F X (get_or ws i 0)) xs e);
      }
