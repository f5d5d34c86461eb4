-- A loop that walks a slice from the front, leaves its outcome at each place and adds up what the readings count for: "what is done, and then the rest walked, is the whole
-- walked" and "the sums so far, with those of the rest, are the whole sums". Where it begins, after one reading, after a part that was walked by itself, and at the end.
-- One law for every method, both widths and any number of counts.
use mathlib.Core.Path.{◌≡◌, refl, sym, ap, ◌∙◌, subst}
use mathlib.Core.List.{List, [], ◌∷◌, ◌++◌, append_assoc, append-nil}
use Prim.Native.Nat.{ℕ, suc, ◌+◌, ◌<◌, ◌≤◌, zero-le}
use native.Mathlib.Numerals.{add-one}
use native.Mathlib.Omega.{arith}
use lib.ListN.{length, take, drop, get_or, set, length-set, length-drop, take-append-drop, drop_of_length-le}
use lib.Seq.{drop-cons, take-suc-set, drop-set-lt, take_all, length-take-le}
use Rattle.parts.proofs.Back.{back, length_back, take_back, drop_back}
use Rattle.reading.specs.Left.{Tally, Settled}
use Rattle.loops.specs.Tallies.{none, plus, Few}
use Rattle.loops.specs.Walk.{state_at, walked_by, tallied_by}
use Rattle.loops.proofs.Tallies.{few_none, few_wider, few_plus, plus_none, none_plus, plus_assoc}

-- ---- walks of joined lists

pub state_append : (next : ℕ → ℕ → ℕ) (s : ℕ) (us vs : List ℕ) → state_at next s (us ++ vs) (length (us ++ vs)) ≡ state_at next (state_at next s us (length us)) vs (length vs)
state_append next s [] vs = refl
state_append next s (w ∷ us) vs = state_append next (next w s) us vs

module _ (next : ℕ → ℕ → ℕ) (f : ℕ → ℕ → Settled) where
  pub walked_append : (s : ℕ) (us vs : List ℕ) → walked_by next f s (us ++ vs) ≡ walked_by next f s us ++ walked_by next f (state_at next s us (length us)) vs
  walked_append s [] vs = refl
  walked_append s (w ∷ us) vs = ap (λ (l : List ℕ). (f s w).pattern ∷ l) (walked_append (next w s) us vs)

  pub tallied_append : (s : ℕ) (us vs : List ℕ) → tallied_by next f s (us ++ vs) ≡ plus (tallied_by next f s us) (tallied_by next f (state_at next s us (length us)) vs)
  tallied_append s [] vs = sym (none_plus (tallied_by next f s vs))
  tallied_append s (w ∷ us) vs =
      ap (plus (f s w).tally) (tallied_append (next w s) us vs)
      ∙ sym (plus_assoc (f s w).tally (tallied_by next f (next w s) us) (tallied_by next f (state_at next (next w s) us (length us)) vs))

  pub walked_length : (s : ℕ) (ws : List ℕ) → length (walked_by next f s ws) ≡ length ws
  walked_length s [] = refl
  walked_length s (w ∷ ws) = ap suc (walked_length (next w s) ws)

  pub few_tallied : ((s w : ℕ) → Few (f s w).tally 1) → (s : ℕ) (ws : List ℕ) → Few (tallied_by next f s ws) (length ws)
  few_tallied ones s [] = few_none
  few_tallied ones s (w ∷ ws) =
      few_wider (tallied_by next f s (w ∷ ws)) (1 + length ws) (suc (length ws)) (omega arith)
      (few_plus (f s w).tally (tallied_by next f (next w s) ws) 1 (length ws) (ones s w) (few_tallied ones (next w s) ws))

-- ---- the loop

pub record Walk (next : ℕ → ℕ → ℕ) (f : ℕ → ℕ → Settled) (first : ℕ) (all xs : List ℕ) (t : Tally) (s i : ℕ) : Type 0 where
  pub same : length xs ≡ length all
  pub within : i ≤ length xs
  pub ones : (s w : ℕ) → Few (f s w).tally 1
  pub few : Few t i
  pub state : state_at next s (drop i xs) (length (drop i xs)) ≡ state_at next first all (length all)
  pub left : take i xs ++ walked_by next f s (drop i xs) ≡ walked_by next f first all
  pub sums : plus t (tallied_by next f s (drop i xs)) ≡ tallied_by next f first all

module _ {next : ℕ → ℕ → ℕ} {f : ℕ → ℕ → Settled} {first : ℕ} {all : List ℕ} where
  pub begin : {t : Tally} → ((s w : ℕ) → Few (f s w).tally 1) → t ≡ none → Walk next f first all all t first 0
  begin {t} ones e =
      subst (λ (r : Tally). Walk next f first all all r first 0) (sym e)
      (record { same = refl; within = zero-le; ones = ones; few = few_none; state = refl; left = refl; sums = none_plus (tallied_by next f first all) })

  module _ {xs : List ℕ} {t : Tally} {s i : ℕ} (inv : Walk next f first all xs t s i) where
    -- what one reading more asks for
    pub room : {r : Settled} {most : ℕ} → i ≤ most → r ≡ f s (get_or xs i 0) → Few t most × Few r.tally 1
    room {r} {most} h e = (few_wider t i most h inv.few, subst (λ (y : Settled). Few y.tally 1) (sym e) (inv.ones s (get_or xs i 0)))

    pub step : {r : Settled} {u : Tally} {v : ℕ} → i < length xs → r ≡ f s (get_or xs i 0) → u ≡ plus t r.tally → v ≡ next (get_or xs i 0) s
        → Walk next f first all (set xs i r.pattern) u v (i + 1)
    step {r} {u} {v} h e p n =
        let w = get_or xs i 0 in
        let q = p ∙ ap (λ (y : Settled). plus t y.tally) e in
        record {
          same = length-set xs i r.pattern ∙ inv.same;
          within = rw (length-set xs i r.pattern) (omega arith);
          ones = inv.ones;
          few = subst (λ (y : Tally). Few y (i + 1)) (sym q) (few_plus t (f s w).tally i 1 inv.few (inv.ones s w));
          state =
              rw (add-one, drop-set-lt (suc i) xs i r.pattern (omega arith), n)
              (sym (ap (λ (l : List ℕ). state_at next s l (length l)) (drop-cons xs i 0 h)) ∙ inv.state);
          left =
              rw (add-one, take-suc-set, drop-set-lt (suc i) xs i r.pattern (omega arith), append_assoc, n)
              (ap (λ (y : Settled). take i xs ++ (y.pattern ∷ walked_by next f (next w s) (drop (suc i) xs))) e
              ∙ sym (ap (λ (l : List ℕ). take i xs ++ walked_by next f s l) (drop-cons xs i 0 h))
              ∙ inv.left);
          sums =
              rw (add-one, drop-set-lt (suc i) xs i r.pattern (omega arith), n)
              (ap (λ (y : Tally). plus y (tallied_by next f (next w s) (drop (suc i) xs))) q
              ∙ plus_assoc t (f s w).tally (tallied_by next f (next w s) (drop (suc i) xs))
              ∙ sym (ap (λ (l : List ℕ). plus t (tallied_by next f s l)) (drop-cons xs i 0 h))
              ∙ inv.sums);
        }

    -- the k readings from i on, walked by themselves
    module _ (k : ℕ) (long : i + k ≤ length xs) where
      part_length : length (take k (drop i xs)) ≡ k
      part_length = length-take-le k (drop i xs) (simp length-drop (omega arith))

      pub few_part : {r : Tally} → r ≡ tallied_by next f s (take k (drop i xs)) → Few (plus t r) (i + k)
      few_part {r} e =
          few_plus t r i k inv.few (subst (λ (n : ℕ). Few r n) part_length (subst (λ (y : Tally). Few y (length (take k (drop i xs)))) (sym e) (few_tallied next f inv.ones s (take k (drop i xs)))))

      pub part : {ys : List ℕ} {r u : Tally} {v e : ℕ} → i + k ≡ e → ys ≡ walked_by next f s (take k (drop i xs)) → r ≡ tallied_by next f s (take k (drop i xs)) → u ≡ plus t r
          → v ≡ state_at next s (take k (drop i xs)) (length (take k (drop i xs))) → Walk next f first all (back xs i k ys) u v e
      part {ys} {r} {u} {v} {e} to ey er eu ev =
          subst (λ (n : ℕ). Walk next f first all (back xs i k ys) u v n) to
          (record {
            same = length_back xs i k ys ys_length long ∙ inv.same;
            within = rw (length_back xs i k ys ys_length long) long;
            ones = inv.ones;
            few = subst (λ (y : Tally). Few y (i + k)) (sym eu) (few_part er);
            state =
                rw (drop_back xs i k ys ys_length long, ev)
                (sym (state_append next s now rest) ∙ ap (λ (l : List ℕ). state_at next s l (length l)) (take-append-drop k (drop i xs)) ∙ inv.state);
            left =
                rw (take_back xs i k ys ys_length long, drop_back xs i k ys ys_length long, ev)
                (append_assoc (take i xs) ys (walked_by next f (state_at next s now (length now)) rest)
                ∙ ap (λ (l : List ℕ). take i xs ++ l)
                (ap (λ (l : List ℕ). l ++ walked_by next f (state_at next s now (length now)) rest) ey ∙ sym (walked_append next f s now rest) ∙ ap (walked_by next f s) (take-append-drop k (drop i xs)))
                ∙ inv.left);
            sums =
                rw (drop_back xs i k ys ys_length long, ev)
                (ap (λ (y : Tally). plus y (tallied_by next f (state_at next s now (length now)) rest)) (eu ∙ ap (plus t) er)
                ∙ plus_assoc t (tallied_by next f s now) (tallied_by next f (state_at next s now (length now)) rest)
                ∙ ap (plus t) (sym (tallied_append next f s now rest) ∙ ap (tallied_by next f s) (take-append-drop k (drop i xs)))
                ∙ inv.sums);
          })
        where
          now : List ℕ
          now = take k (drop i xs)

          rest : List ℕ
          rest = drop k (drop i xs)

          ys_length : length ys ≡ k
          ys_length = ap length ey ∙ walked_length next f s (take k (drop i xs)) ∙ part_length

    pub end : length xs ≤ i → (t ≡ tallied_by next f first all) × (xs ≡ walked_by next f first all)
    end h = (
      sym (plus_none t) ∙ sym (ap (λ (l : List ℕ). plus t (tallied_by next f s l)) (drop_of_length-le xs h)) ∙ inv.sums,
      sym (take_all i xs h) ∙ sym (append-nil (take i xs)) ∙ sym (ap (λ (l : List ℕ). take i xs ++ walked_by next f s l) (drop_of_length-le xs h)) ∙ inv.left,
    )

    pub end_state : length xs ≤ i → s ≡ state_at next first all (length all)
    end_state h = sym (ap (λ (l : List ℕ). state_at next s l (length l)) (drop_of_length-le xs h)) ∙ inv.state
