-- Document 02 (g). Four lanes joined are the sum in order. The exact total of a layer is what its codes mean, added up, and each present reading adds at most its own distance
-- to that of the totals: so of a layer, of a year of layers, and of the readings before they were trimmed. Totals are added as positions, which are whole numbers; the signs
-- come last.
use mathlib.Core.Path.{◌≡◌, refl, sym, ap, ◌∙◌}
use mathlib.Core.Logic.{◌≢◌}
use mathlib.Core.Bool.{true, cond}
use mathlib.Core.List.{List, [], ◌∷◌, ◌++◌, zip_with}
use Prim.Native.Nat.{ℕ, zero, suc, ◌+◌, ◌*◌, ◌/◌, ◌%◌, ◌^◌, ◌≤◌, ◌<◌, zero-le, suc-le-suc}
use native.Mathlib.Nat.{mod-lt, zero-mul}
use native.Mathlib.Decide.{ℕ_discrete}
use native.Mathlib.Omega.{arith}
use borrow.Author.Tests.{eq-eqb, ne_eqb, le-leb}
use lib.Dec.{eqb}
use lib.IntN.{ℤ, pos, neg_ℤ, nat_abs, sub_ℕ, ◌+ℤ◌, ◌-ℤ◌, +ℤ_assoc, +ℤ_idl}
use lib.ListN.{length, get_or, take, drop, length-drop, take-append-drop}
use Rattle.meaning.specs.Readings.{size, sign, magnitude, infinity, magnitude_of, origin, position, distance, missing}
use Rattle.meaning.specs.Methods.{Method}
use Rattle.meaning.specs.Layers.{Layer, missing_code, last_code, runs, layers, layer_of, code_meaning}
use Rattle.meaning.specs.Questions.{accepted, ask, code_in_range}
use Rattle.meaning.specs.Calls.{Call, AfterPack, answering, in_turn, accepted_calls, largest_unit, pack, stored_layers}
use Rattle.meaning.specs.Claim.{one_kind, Coded, layer_at}
use Rattle.meaning.specs.Totals.{Totals, in_order_sum, one_present, if_present, totals_of, totals_questions, totals, lane_from, Joined, signed_sum, signed_size, exact_meaning, meanings_total, exact_total, readings_total, units_total, units_left, present_in, LayerTotal, SentTotal, over_layers, year_total, year_steps, YearSent, part_at, TotalsClaim}
use Rattle.meaning.proofs.Patterns.{finite_below, size_below, position_plus, position_minus}
use Rattle.meaning.proofs.Packing.{Packable, CodedIn, codes_apart}
use Rattle.meaning.proofs.References.{reference_finite}
use Rattle.meaning.proofs.Elements.{all_pass, layers_long, layers_at}
use Rattle.meaning.proofs.Packed.{Asked, all_asked, in_layers, codes_long, references_long, exponents_long, stored_at, room, part_packable, width_known, width_packed, coded_at, same_length, coded_sent, sent_below}
use Rattle.meaning.proofs.Layering.{next, part_long, part_at_lem}
use Rattle.meaning.proofs.Differences.{same_difference, add_differences, turned, apart_is, difference, as_difference, multiple, apart_sum, apart_none}

-- ---- four lanes

-- a remainder by 4 is one of four
one_of_four : (r x : ℕ) → r < 4 → cond (eqb r 0) x 0 + cond (eqb r 1) x 0 + cond (eqb r 2) x 0 + cond (eqb r 3) x 0 ≡ x
one_of_four zero x h = omega arith
one_of_four (suc zero) x h = omega arith
one_of_four (suc (suc zero)) x h = omega arith
one_of_four (suc (suc (suc zero))) x h = omega arith
one_of_four (suc (suc (suc (suc r)))) x h = absurd (omega arith)

lanes_join : {A : Type 0} (f : A → ℕ) (place : ℕ) (xs : List A) → lane_from f 0 place xs + lane_from f 1 place xs + lane_from f 2 place xs + lane_from f 3 place xs ≡ in_order_sum f xs
unfolding lane_from in_order_sum
lanes_join f place [] = refl
lanes_join f place (x ∷ xs) = omega (arith, one_of_four (place % 4) (f x) (mod-lt place (omega arith)), lanes_join f (suc place) xs)

pub joined : {A : Type 0} (f : A → ℕ) (xs : List A) → Joined f xs
joined f xs = record { in_order = lanes_join f 0 xs }

-- ---- sums over two lists, one after the other

pub in_order_append : {A : Type 0} (f : A → ℕ) (xs ys : List A) → in_order_sum f (xs ++ ys) ≡ in_order_sum f xs + in_order_sum f ys
unfolding in_order_sum
in_order_append f [] ys = omega arith
in_order_append f (x ∷ xs) ys = omega (arith, in_order_append f xs ys)

signed_append : {A : Type 0} (f : A → ℤ) (xs ys : List A) → signed_sum f (xs ++ ys) ≡ signed_sum f xs +ℤ signed_sum f ys
unfolding signed_sum
signed_append f [] ys = sym (+ℤ_idl (signed_sum f ys))
signed_append f (x ∷ xs) ys = ap (λ (z : ℤ). f x +ℤ z) (signed_append f xs ys) ∙ sym (+ℤ_assoc (f x) (signed_sum f xs) (signed_sum f ys))

-- ---- present codes and readings

module _ (m c : ℕ) where
  none_there : c ≡ m → (if_present m c ≡ 0) × (one_present m c ≡ 0)
  unfolding if_present one_present
  none_there e = (rw (eq-eqb c m e) refl, rw (eq-eqb c m e) refl)

  one_there : c ≢ m → (if_present m c ≡ c) × (one_present m c ≡ 1)
  unfolding if_present one_present
  one_there e = (rw (ne_eqb c m e) refl, rw (ne_eqb c m e) refl)

-- the count and the sum of a layer's codes
abbrev counted : Layer → List ℕ → ℕ
counted l cs = in_order_sum (one_present (missing_code l.width)) cs

abbrev summed : Layer → List ℕ → ℕ
summed l cs = in_order_sum (if_present (missing_code l.width)) cs

-- what f makes of the present readings, added up
abbrev over_present : ℕ → (ℕ → ℕ) → List ℕ → ℕ
over_present mark f ws = in_order_sum (λ w. cond (missing mark w) 0 (f w)) ws

no_units : (mark : ℕ) (ws : List ℕ) → over_present mark (λ w. 0) ws ≡ 0
unfolding in_order_sum missing
no_units mark [] = refl
no_units mark (w ∷ ws) = go (ℕ_discrete w mark) (no_units mark ws)
  where
    go : Dec (w ≡ mark) → over_present mark (λ w. 0) ws ≡ 0 → over_present mark (λ w. 0) (w ∷ ws) ≡ 0
    go (yes e) ih = rw (eq-eqb w mark e) (omega (arith, ih))
    go (no e) ih = rw (ne_eqb w mark e) (omega (arith, ih))

none_present : (mark : ℕ) (f : ℕ → ℕ) (ws : List ℕ) → present_in mark ws ≡ 0 → over_present mark f ws ≡ 0
unfolding in_order_sum present_in missing
none_present mark f [] h = refl
none_present mark f (w ∷ ws) h = go (ℕ_discrete w mark) (none_present mark f ws) h
  where
    go : Dec (w ≡ mark) → (present_in mark ws ≡ 0 → over_present mark f ws ≡ 0) → present_in mark (w ∷ ws) ≡ 0 → over_present mark f (w ∷ ws) ≡ 0
    go (yes e) ih = rw (eq-eqb w mark e) (λ o. omega (arith, ih (omega arith)))
    go (no e) ih = rw (ne_eqb w mark e) (λ o. absurd (omega arith))

-- ---- one layer: each reading beside its code

module _ (F X : ℕ) (l : Layer) (mark : ℕ) where
  abbrev m : ℕ
  m = missing_code l.width

  -- A reading w with its code c: twice their distance, and s more, is at most a step and twice what u allows to the reading and v to the code.
  pub record Beside (u v : ℕ → ℕ) (s w c : ℕ) : Type 0 where
    pub is_missing_code : w ≡ mark → c ≡ missing_code l.width
    pub other_code : w ≢ mark → c ≢ missing_code l.width
    pub bounded : w ≢ mark → magnitude F X w < infinity F X
    pub close : w ≢ mark → 2 * distance (position F X w) (code_meaning F X l c) + s ≤ 2 * (u w + v c) + 2 ^ l.exponent

  module _ (u v : ℕ → ℕ) (s : ℕ) where
    abbrev pub AllBeside : List ℕ → List ℕ → Type 0
    AllBeside ws cs = (i : ℕ) → i < length ws → Beside u v s (get_or ws i 0) (get_or cs i 0)

    -- as positions: "count times R plus sum times 2^E" beside the positions of the present readings
    abbrev Near : List ℕ → List ℕ → Type 0
    Near ws cs =
        (counted l cs ≡ present_in mark ws)
        × (2 * distance (counted l cs * position F X l.reference + summed l cs * 2 ^ l.exponent) (over_present mark (position F X) ws) + s * present_in mark ws
        ≤ 2 * (over_present mark u ws + over_present m v cs) + present_in mark ws * 2 ^ l.exponent)

    near : (ws cs : List ℕ) → length cs ≡ length ws → AllBeside ws cs → Near ws cs
    unfolding in_order_sum present_in code_meaning distance missing
    near [] [] e h = (refl, omega arith)
    near [] (c ∷ cs) e h = absurd (omega arith)
    near (w ∷ ws) [] e h = absurd (omega arith)
    near (w ∷ ws) (c ∷ cs) e h = go (ℕ_discrete w mark) (near ws cs (omega arith) (λ i k. h (suc i) (suc-le-suc k)))
      where
        q : Beside u v s w c
        q = h 0 (suc-le-suc zero-le)

        go : Dec (w ≡ mark) → Near ws cs → Near (w ∷ ws) (c ∷ cs)
        go (yes o) ih =
            let z = none_there m c (q.is_missing_code o) in
            rw (eq-eqb w mark o, eq-eqb c m (q.is_missing_code o), z.0, z.1) (omega (arith, ih.0), omega (arith, ih))
        go (no o) ih =
            let z = one_there m c (q.other_code o) in
            rw (ne_eqb w mark o, ne_eqb c m (q.other_code o), z.0, z.1) (omega (arith, ih.0), omega (arith, ih, q.close o))

-- ---- signs: every total as a difference

module _ (F X : ℕ) where
  -- the signed size of a finite reading is its position less that of zero
  signed_is : (w : ℕ) → magnitude F X w < infinity F X → signed_size F X w ≡ sub_ℕ (position F X w) (origin F X)
  unfolding signed_size
  signed_is w f = go (ℕ_discrete (sign F X w) 0)
    where
      n : ℕ
      n = size F (magnitude F X w)

      go : Dec (sign F X w ≡ 0) → cond (eqb (sign F X w) 0) (pos n) (neg_ℤ (pos n)) ≡ sub_ℕ (position F X w) (origin F X)
      go (yes z) = rw (eq-eqb (sign F X w) 0 z) (as_difference n ∙ same_difference n 0 (position F X w) (origin F X) (omega (arith, position_plus F X w z)))
      go (no z) =
          rw (ne_eqb (sign F X w) 0 z)
          (ap neg_ℤ (as_difference n) ∙ turned n 0 ∙ same_difference 0 n (position F X w) (origin F X) (omega (arith, position_minus F X w z, size_below F X f)))

  readings_are : (mark : ℕ) (ws : List ℕ) → Packable F X mark ws
      → readings_total F X mark ws ≡ sub_ℕ (over_present mark (position F X) ws) (present_in mark ws * origin F X)
  unfolding readings_total signed_sum in_order_sum present_in missing
  readings_are mark [] h = as_difference 0 ∙ same_difference 0 0 0 (0 * origin F X) (omega arith)
  readings_are mark (w ∷ ws) h = go (ℕ_discrete w mark) (readings_are mark ws (λ i k. h (suc i) (suc-le-suc k)))
    where
      P : ℕ
      P = over_present mark (position F X) ws

      n : ℕ
      n = present_in mark ws

      go : Dec (w ≡ mark) → readings_total F X mark ws ≡ sub_ℕ P (n * origin F X)
          → readings_total F X mark (w ∷ ws) ≡ sub_ℕ (over_present mark (position F X) (w ∷ ws)) (present_in mark (w ∷ ws) * origin F X)
      go (yes e) ih = rw (eq-eqb w mark e) (+ℤ_idl (readings_total F X mark ws) ∙ ih ∙ same_difference P (n * origin F X) (0 + P) ((0 + n) * origin F X) (omega arith))
      go (no e) ih =
          rw (ne_eqb w mark e)
          (rw (signed_is w (h 0 (suc-le-suc zero-le) e), ih)
          (add_differences (position F X w) (origin F X) P (n * origin F X)
          ∙ same_difference (position F X w + P) (origin F X + n * origin F X) (position F X w + P) ((1 + n) * origin F X) (omega arith)))

  module _ (l : Layer) where
    -- where R is x - y
    module _ (x y : ℕ) (e : signed_size F X l.reference ≡ sub_ℕ x y) where
      total_is : (t : Totals) → exact_total F X l t ≡ sub_ℕ (t.count * x + t.sum * 2 ^ l.exponent) (t.count * y)
      unfolding exact_total
      total_is t =
          rw (e, multiple t.count x y, as_difference (t.sum * 2 ^ l.exponent))
          (add_differences (t.count * x) (t.count * y) (t.sum * 2 ^ l.exponent) 0
          ∙ same_difference (t.count * x + t.sum * 2 ^ l.exponent) (t.count * y + 0) (t.count * x + t.sum * 2 ^ l.exponent) (t.count * y) (omega arith))

      meaning_is : (c : ℕ) → exact_meaning F X l c ≡ sub_ℕ (x + c * 2 ^ l.exponent) (y + 0)
      unfolding exact_meaning
      meaning_is c = rw (e, as_difference (c * 2 ^ l.exponent)) (add_differences x y (c * 2 ^ l.exponent) 0)

      meanings_are : (cs : List ℕ) → meanings_total F X l cs ≡ sub_ℕ (counted l cs * x + summed l cs * 2 ^ l.exponent) (counted l cs * y)
      unfolding meanings_total signed_sum in_order_sum
      meanings_are [] = as_difference 0 ∙ same_difference 0 0 (0 * x + 0 * 2 ^ l.exponent) (0 * y) (omega arith)
      meanings_are (c ∷ cs) = go (ℕ_discrete c (missing_code l.width)) (meanings_are cs)
        where
          n : ℕ
          n = counted l cs

          k : ℕ
          k = summed l cs

          g : ℕ
          g = 2 ^ l.exponent

          go : Dec (c ≡ missing_code l.width) → meanings_total F X l cs ≡ sub_ℕ (n * x + k * g) (n * y)
              → meanings_total F X l (c ∷ cs) ≡ sub_ℕ (counted l (c ∷ cs) * x + summed l (c ∷ cs) * g) (counted l (c ∷ cs) * y)
          go (yes o) ih =
              let z = none_there (missing_code l.width) c o in
              rw (eq-eqb c (missing_code l.width) o, z.0, z.1)
              (+ℤ_idl (meanings_total F X l cs) ∙ ih ∙ same_difference (n * x + k * g) (n * y) ((0 + n) * x + (0 + k) * g) ((0 + n) * y) (omega arith))
          go (no o) ih =
              let z = one_there (missing_code l.width) c o in
              rw (ne_eqb c (missing_code l.width) o, z.0, z.1)
              (rw (meaning_is c, ih)
              (add_differences (x + c * g) (y + 0) (n * x + k * g) (n * y)
              ∙ same_difference (x + c * g + (n * x + k * g)) (y + 0 + n * y) ((1 + n) * x + (c + k) * g) ((1 + n) * y) (omega arith)))

    exact : (cs : List ℕ) → exact_total F X l (totals_of l.width cs) ≡ meanings_total F X l cs
    unfolding totals_of
    exact cs = let d = difference (signed_size F X l.reference) in total_is d.more d.less d.is (totals_of l.width cs) ∙ sym (meanings_are d.more d.less d.is cs)

    -- the exact total beside that of the readings
    module _ (mark : ℕ) (u v : ℕ → ℕ) (s : ℕ) (R : magnitude F X l.reference < infinity F X) where
      abbrev pub TotalNear : List ℕ → List ℕ → Type 0
      TotalNear ws cs =
          ((totals_of l.width cs).count ≡ present_in mark ws)
          × (2 * nat_abs (exact_total F X l (totals_of l.width cs) -ℤ readings_total F X mark ws) + s * present_in mark ws
          ≤ 2 * (over_present mark u ws + over_present (missing_code l.width) v cs) + (totals_of l.width cs).count * 2 ^ l.exponent)

      total_near : (ws cs : List ℕ) → length cs ≡ length ws → AllBeside F X l mark u v s ws cs → TotalNear ws cs
      unfolding totals_of distance
      total_near ws cs e h =
          let n = near F X l mark u v s ws cs e h in
          let t = totals_of l.width cs in (
            n.0,
            rw (
              total_is (position F X l.reference) (origin F X) (signed_is l.reference R) t,
              readings_are mark ws (λ i k. (h i k).bounded),
              apart_is (t.count * position F X l.reference + t.sum * 2 ^ l.exponent) (t.count * origin F X) (over_present mark (position F X) ws) (present_in mark ws * origin F X),
              n.0,
            )
                (omega (arith, rw n.0 at n.1)),
          )

-- ---- layers one after the other

-- twice one thing of each layer and another, added up
split_layers : (f h : Layer → List ℕ → ℕ) (ls : List Layer) (parts : List (List ℕ))
    → in_order_sum (λ n. n) (zip_with (λ l part. 2 * f l part + h l part) ls parts) ≡ 2 * in_order_sum (λ n. n) (zip_with f ls parts) + in_order_sum (λ n. n) (zip_with h ls parts)
unfolding in_order_sum zip_with
split_layers f h [] parts = refl
split_layers f h (l ∷ ls) [] = refl
split_layers f h (l ∷ ls) (part ∷ parts) = omega (arith, split_layers f h ls parts)

module _ (mark L : ℕ) (u : ℕ → ℕ) (b : Layer → List ℕ → ℕ) (s : ℕ) where
  -- one layer's total, beside that of its readings: what u allows to each reading, and b to the layer
  abbrev pub OneNear : Layer → List ℕ → List ℕ → Type 0
  OneNear l cs ws =
      2 * nat_abs (exact_total 23 8 l (totals_of l.width cs) -ℤ readings_total 23 8 mark ws) + s * present_in mark ws
      ≤ 2 * over_present mark u ws + b l cs

  abbrev none : Layer
  none = record { width = 0; reference = 0; exponent = 0 }

  abbrev totals_in : List Layer → List (List ℕ) → List ℤ
  totals_in ls parts = zip_with (λ l part. exact_total 23 8 l (totals_of l.width part)) ls parts

  -- what is added up of an array, of its first L places and of the rest
  cut_present : (ws : List ℕ) → present_in mark ws ≡ present_in mark (take L ws) + present_in mark (drop L ws)
  unfolding present_in
  cut_present ws = ap (over_present mark (λ w. 1)) (sym (take-append-drop L ws)) ∙ in_order_append (λ w. cond (missing mark w) 0 1) (take L ws) (drop L ws)

  cut_units : (ws : List ℕ) → over_present mark u ws ≡ over_present mark u (take L ws) + over_present mark u (drop L ws)
  cut_units ws = ap (over_present mark u) (sym (take-append-drop L ws)) ∙ in_order_append (λ w. cond (missing mark w) 0 (u w)) (take L ws) (drop L ws)

  cut_readings : (ws : List ℕ) → readings_total 23 8 mark ws ≡ readings_total 23 8 mark (take L ws) +ℤ readings_total 23 8 mark (drop L ws)
  unfolding readings_total
  cut_readings ws =
      ap (signed_sum (λ w. cond (missing mark w) (pos 0) (signed_size 23 8 w))) (sym (take-append-drop L ws))
      ∙ signed_append (λ w. cond (missing mark w) (pos 0) (signed_size 23 8 w)) (take L ws) (drop L ws)

  no_readings : (readings_total 23 8 mark [] ≡ pos 0) × (present_in mark [] ≡ 0)
  unfolding readings_total signed_sum present_in in_order_sum
  no_readings = (refl, refl)

  all_near : (n : ℕ) (ls : List Layer) (cs ws : List ℕ) → length ls ≡ n → length ws ≡ n * L
      → ((j : ℕ) → j < n → OneNear (get_or ls j none) (take L (drop (j * L) cs)) (take L (drop (j * L) ws)))
      → 2 * nat_abs (signed_sum (λ z. z) (totals_in ls (runs L n cs)) -ℤ readings_total 23 8 mark ws) + s * present_in mark ws
      ≤ 2 * over_present mark u ws + in_order_sum (λ k. k) (zip_with b ls (runs L n cs))
  unfolding runs zip_with signed_sum in_order_sum
  all_near zero [] cs [] e k h = rw (no_readings.0, no_readings.1) (omega arith)
  all_near zero [] cs (w ∷ ws) e k h = absurd (omega arith)
  all_near zero (l ∷ ls) cs ws e k h = absurd (omega arith)
  all_near (suc n) [] cs ws e k h = absurd (omega arith)
  all_near (suc n) (l ∷ ls) cs ws e k h =
      let first : OneNear l (take L cs) (take L ws) = rw zero-mul at (h 0 (omega arith)) in
      let rest = all_near n ls (drop L cs) (drop L ws) (omega arith) (simp length-drop (omega arith)) (λ j o. rw (next L j cs, next L j ws) (h (suc j) (suc-le-suc o))) in
      rw (cut_readings ws)
      (omega (
        arith,
        first,
        rest,
        ap (λ (x : ℕ). s * x) (cut_present ws),
        cut_units ws,
        apart_sum (exact_total 23 8 l (totals_of l.width (take L cs))) (signed_sum (λ z. z) (totals_in ls (runs L n (drop L cs)))) (readings_total 23 8 mark (take L ws)) (readings_total 23 8 mark (drop L ws)),
      ))

-- ---- an accepted packing

module _ (mark L : ℕ) (widths vs codes references : List ℕ) (exponents : List ℤ) (packs : (pack mark L widths vs codes references exponents).answer ≡ accepted tt) where
  abbrev p : AfterPack
  p = pack mark L widths vs codes references exponents

  abbrev ls : List Layer
  ls = stored_layers widths p.references p.exponents

  asked : Asked mark L widths vs
  asked = all_asked mark L widths vs codes references exponents packs

  full : length vs / L * L ≡ length vs
  full = in_layers mark L widths vs codes references exponents packs

  -- all layers, where each is near
  whole_near : (u : ℕ → ℕ) (b : Layer → List ℕ → ℕ) (s : ℕ) (ws : List ℕ) → length ws ≡ length vs
      → ((j : ℕ) → j < length vs / L → OneNear mark L u b s (layer_at widths p.references p.exponents j) (part_at L j p.codes) (part_at L j ws))
      → 2 * nat_abs (year_total L ls p.codes -ℤ readings_total 23 8 mark ws) + s * present_in mark ws ≤ 2 * over_present mark u ws + over_layers b L ls p.codes
  unfolding year_total over_layers layers
  whole_near u b s ws e h =
      rw (codes_long mark L widths vs codes references exponents packs)
      (all_near mark L u b s (length vs / L) ls p.codes ws (layers_long widths p.references p.exponents m n ∙ asked.one_width) (e ∙ sym full)
      (λ j k. rw (layers_at widths p.references p.exponents m n (none mark L u b s) j (rw asked.one_width k)) (h j k)))
    where
      m : length widths ≡ length p.references
      m = asked.one_width ∙ sym (references_long mark L widths vs codes references exponents packs)

      n : length widths ≡ length p.exponents
      n = asked.one_width ∙ sym (exponents_long mark L widths vs codes references exponents packs)

  module _ (j : ℕ) (h : j < length vs / L) where
    abbrev l : Layer
    l = layer_of 23 8 277 mark (get_or widths j 0) (take L (drop (j * L) vs))

    layer_is : layer_at widths p.references p.exponents j ≡ l
    layer_is = stored_at mark L widths vs codes references exponents packs j h

    own_long : length (part_at L j p.codes) ≡ L
    own_long = part_long L j p.codes (omega (arith, room mark L widths vs codes references exponents packs j h, codes_long mark L widths vs codes references exponents packs))

    packable : Packable 23 8 mark (part_at L j vs)
    packable = part_packable mark L widths vs codes references exponents packs j h

    reference_below : magnitude 23 8 l.reference < infinity 23 8
    reference_below = finite_below 23 8 l.reference (reference_finite 277 mark (get_or widths j 0) (part_at L j vs) packable)

    part_length : length (part_at L j vs) ≡ L
    part_length = part_long L j vs (room mark L widths vs codes references exponents packs j h)

    coded_in : (i : ℕ) → i < L → CodedIn 23 8 mark l (get_or (part_at L j vs) i 0) (get_or (part_at L j p.codes) i 0)
    coded_in i k = rw (part_at_lem L j vs i k, part_at_lem L j p.codes i k) (coded_at mark L widths vs codes references exponents packs j h i k)

    apart_codes : last_code l.width < missing_code l.width
    apart_codes = codes_apart l.width (omega (arith, width_packed mark L widths vs codes references exponents packs j h))

    -- each reading packed, beside its code
    beside : AllBeside 23 8 l mark (λ w. 0) (λ c. 0) 0 (part_at L j vs) (part_at L j p.codes)
    beside i k =
        let c = coded_in i (omega (arith, part_length)) in
        record {
          is_missing_code = c.is_missing_code;
          other_code = λ o e. omega (arith, c.other_code o, apart_codes, e);
          bounded = packable i k;
          close = λ o. omega (arith, c.half_step o);
        }

    near_packed : TotalNear 23 8 l mark (λ w. 0) (λ c. 0) 0 reference_below (part_at L j vs) (part_at L j p.codes)
    near_packed = total_near 23 8 l mark (λ w. 0) (λ c. 0) 0 reference_below (part_at L j vs) (part_at L j p.codes) (own_long ∙ sym part_length) beside

    code_known : (i : ℕ) → i < L → get_or (part_at L j p.codes) i 0 ≤ missing_code l.width
    code_known i k = go (ℕ_discrete (get_or (part_at L j vs) i 0) mark)
      where
        go : Dec (get_or (part_at L j vs) i 0 ≡ mark) → get_or (part_at L j p.codes) i 0 ≤ missing_code l.width
        go (yes o) = omega (arith, (coded_in i k).is_missing_code o)
        go (no o) = omega (arith, (coded_in i k).other_code o, apart_codes)

    accepts : totals l.width (part_at L j p.codes) ≡ accepted (totals_of l.width (part_at L j p.codes))
    unfolding totals totals_questions answering ask layer_of
    accepts =
        rw (
          own_long,
          le-leb 1 L asked.some,
          le-leb L 65536 asked.most,
          width_known mark L widths vs codes references exponents packs j h,
          all_pass (code_in_range (get_or widths j 0)) 0 (part_at L j p.codes) (λ i k. le-leb _ (missing_code (get_or widths j 0)) (code_known i (omega (arith, own_long)))),
        )
        refl

    half_steps : 2 * nat_abs (exact_total 23 8 l (totals_of l.width (part_at L j p.codes)) -ℤ readings_total 23 8 mark (part_at L j vs)) ≤ (totals_of l.width (part_at L j p.codes)).count * 2 ^ l.exponent
    half_steps = omega (arith, near_packed.1, no_units mark (part_at L j vs), no_units (missing_code l.width) (part_at L j p.codes))

    layer_total : LayerTotal mark (layer_at widths p.references p.exponents j) (part_at L j p.codes) (part_at L j vs)
    layer_total =
        rw layer_is (record { answered = accepts; all_counted = near_packed.0; near = omega (arith, half_steps) })

  year : 2 * nat_abs (year_total L ls p.codes -ℤ readings_total 23 8 mark vs) ≤ year_steps L ls p.codes
  year =
      omega (
        arith,
        no_units mark vs,
        whole_near (λ w. 0) (λ l part. (totals_of l.width part).count * 2 ^ l.exponent) 0 vs refl (λ j h. omega (arith, no_units mark (part_at L j vs), (layer_total j h).near)),
      )

-- ---- after a list of trims: from the readings that it began with

module _ (cs : List Call) (mark : ℕ) (ws : List ℕ) (some : 0 < length (accepted_calls 23 8 cs)) (kind : one_kind (accepted_calls 23 8 cs) ≡ true) (L : ℕ) (widths codes references : List ℕ) (exponents : List ℤ)
    (packs : (pack mark L widths (in_turn 23 8 cs mark ws) codes references exponents).answer ≡ accepted tt) where
  abbrev vs : List ℕ
  vs = in_turn 23 8 cs mark ws

  abbrev left : AfterPack
  left = pack mark L widths vs codes references exponents

  abbrev stored : List Layer
  stored = stored_layers widths left.references left.exponents

  abbrev xs : List Method
  xs = accepted_calls 23 8 cs

  -- the unit at a reading, and at the largest that a code of a layer can stand for
  abbrev u : ℕ → ℕ
  u w = largest_unit 23 xs (magnitude 23 8 w)

  abbrev v : Layer → ℕ → ℕ
  v l c = largest_unit 23 xs (magnitude_of 23 8 (distance (code_meaning 23 8 l c) (origin 23 8) + 2 ^ l.exponent / 2))

  abbrev steps : Layer → List ℕ → ℕ
  steps l part = (totals_of l.width part).count * 2 ^ l.exponent

  same : length vs ≡ length ws
  same = same_length cs mark ws some kind L widths codes references exponents packs

  module _ (j : ℕ) (h : j < length vs / L) where
    abbrev packed : Layer
    packed = layer_of 23 8 277 mark (get_or widths j 0) (take L (drop (j * L) vs))

    abbrev own : List ℕ
    own = part_at L j left.codes

    sent_long : length (part_at L j ws) ≡ L
    sent_long = part_long L j ws (omega (arith, same, room mark L widths vs codes references exponents packs j h))

    -- each reading that was sent, beside its code: with its own unit, or with the code's
    beside_sent : (f d : ℕ → ℕ)
        → ((w c : ℕ) → Coded mark xs w packed c → w ≢ mark → 2 * distance (position 23 8 w) (code_meaning 23 8 packed c) < 2 * (f w + d c) + 2 ^ packed.exponent)
        → AllBeside 23 8 packed mark f d 1 (part_at L j ws) own
    beside_sent f d close i k =
        let i-in : i < L = omega (arith, sent_long) in
        let c : Coded mark xs (get_or ws (j * L + i) 0) packed (get_or left.codes (j * L + i) 0) =
        rw (layer_is mark L widths vs codes references exponents packs j h) at (coded_sent cs mark ws some kind L widths codes references exponents packs j i h i-in) in
        rw (part_at_lem L j ws i i-in, part_at_lem L j left.codes i i-in)
        (record {
          is_missing_code = c.is_missing_code.1;
          other_code = λ o e. o (c.is_missing_code.0 e);
          bounded = sent_below cs mark ws some kind L widths codes references exponents packs j i h i-in;
          close = λ o. omega (arith, close _ _ c o);
        })

    near_by : (f d : ℕ → ℕ) → AllBeside 23 8 packed mark f d 1 (part_at L j ws) own
        → TotalNear 23 8 packed mark f d 1 (reference_below mark L widths vs codes references exponents packs j h) (part_at L j ws) own
    near_by f d beside =
        total_near 23 8 packed mark f d 1 (reference_below mark L widths vs codes references exponents packs j h) (part_at L j ws) own
        (own_long mark L widths vs codes references exponents packs j h ∙ sym sent_long) beside

    near_sent : TotalNear 23 8 packed mark u (λ c. 0) 1 (reference_below mark L widths vs codes references exponents packs j h) (part_at L j ws) own
    near_sent = near_by u (λ c. 0) (beside_sent u (λ c. 0) (λ w c k o. omega (arith, k.near o)))

    near_left : TotalNear 23 8 packed mark (λ w. 0) (v packed) 1 (reference_below mark L widths vs codes references exponents packs j h) (part_at L j ws) own
    near_left = near_by (λ w. 0) (v packed) (beside_sent (λ w. 0) (v packed) (λ w c k o. omega (arith, k.near_left o)))

    abbrev by : ℕ
    by = nat_abs (exact_total 23 8 packed (totals_of packed.width own) -ℤ readings_total 23 8 mark (part_at L j ws))

    by_units : 2 * by + present_in mark (part_at L j ws) ≤ 2 * units_total 23 8 xs mark (part_at L j ws) + steps packed own
    unfolding units_total
    by_units = omega (arith, near_sent.1, no_units (missing_code packed.width) own)

    by_left : 2 * by + present_in mark (part_at L j ws) ≤ 2 * units_left xs packed own + steps packed own
    unfolding units_left missing
    by_left = omega (arith, near_left.1, no_units mark (part_at L j ws))

    sent_total : SentTotal xs mark (layer_at widths left.references left.exponents j) own (part_at L j ws)
    unfolding units_total
    sent_total =
        rw (layer_is mark L widths vs codes references exponents packs j h)
        (record {
          all_counted = near_sent.0;
          near = λ o. omega (arith, by_units);
          near_left = λ o. omega (arith, by_left);
          nothing_present = λ o.
              apart_none (exact_total 23 8 packed (totals_of packed.width own)) (readings_total 23 8 mark (part_at L j ws))
              (omega (arith, by_units, none_present mark u (part_at L j ws) o, ap (λ (n : ℕ). n * 2 ^ packed.exponent) (near_sent.0 ∙ o)));
        })

  year_sent : YearSent xs mark L stored left.codes ws
  unfolding units_total over_layers
  year_sent =
      record {
        near = λ o. omega (arith, whole u steps (λ j h. omega (arith, by_units j h)));
        near_left = λ o.
            omega (
              arith,
              no_units mark ws,
              whole (λ w. 0) (λ l part. 2 * units_left xs l part + steps l part) (λ j h. omega (arith, by_left j h, no_units mark (part_at L j ws))),
              split_layers (units_left xs) steps stored (layers L left.codes),
            );
      }
    where
      whole : (f : ℕ → ℕ) (b : Layer → List ℕ → ℕ)
          → ((j : ℕ) (h : j < length vs / L) → OneNear mark L f b 1 (packed j h) (own j h) (part_at L j ws))
          → 2 * nat_abs (year_total L stored left.codes -ℤ readings_total 23 8 mark ws) + 1 * present_in mark ws ≤ 2 * over_present mark f ws + over_layers b L stored left.codes
      whole f b each =
          whole_near mark L widths vs codes references exponents packs f b 1 ws (sym same)
          (λ j h. rw (layer_is mark L widths vs codes references exponents packs j h) (each j h))

pub totals_claim : TotalsClaim
totals_claim =
    record {
      exact = exact 23 8;
      each_layer = layer_total;
      year = year;
      each_layer_sent = λ cs mark ws some kind L widths codes references exponents packs j h.
          sent_total cs mark ws some kind L widths codes references exponents packs j
          (rw (same cs mark ws some kind L widths codes references exponents packs) h);
      year_sent = year_sent;
    }
