-- Demand 3 with packing: the codes, references and exponents that an accepted packing leaves, beside the readings that the list of trims began with. A code's exact
-- meaning lies within half a step of the trimmed reading, and that less than a unit from the original.
use mathlib.Core.Path.{◌≡◌, refl, sym, ap, ◌∙◌, subst}
use mathlib.Core.Logic.{◌≢◌}
use mathlib.Core.Bool.{Bool, true, false, true≢false, ◌&&◌, ◌||◌}
use mathlib.Core.List.{List, [], ◌∷◌, map, zip_with}
use Prim.Native.Nat.{ℕ, ◌+◌, ◌-◌, ◌*◌, ◌/◌, ◌%◌, ◌^◌, ◌≤◌, ◌<◌}
use native.Mathlib.Nat.{div-add-mod', mod-lt, div-lt_iff_lt-mul, le_refl, mul-le-mul_right, mul-le-mul_left, lt_of_lt_of_le}
use native.Mathlib.Decide.{dec_lt, ℕ_discrete}
use native.Mathlib.Omega.{arith}
use borrow.Author.Tests.{leb-true, eqb-true, ne_eqb}
use lib.Dec.{leb, eqb}
use lib.IntN.{ℤ, pos, neg_ℤ, sub_ℕ}
use lib.Signed.{le_z, lt_z}
use lib.ListN.{length, get_or, take, drop, length-map}
use lib.Pow.{pow_mono}
use Rattle.meaning.specs.Readings.{spacing, size, sign, magnitude, infinity, finite, magnitude_of, origin, position, distance, missing}
use Rattle.meaning.specs.Methods.{Method, tail, round, absolute, digits, unit, trimmable}
use Rattle.meaning.specs.Layers.{Layer, missing_code, holds, span, summary, runs, layers, layer_of, code, code_meaning, packed_layers, packed_codes}
use Rattle.meaning.specs.Questions.{Outcome, accepted, ask, all, above, length_in_range, whole, width_in_range, layer_questions, pack_questions}
use Rattle.meaning.specs.Calls.{Call, AfterPack, leaving, in_turn, accepted_calls, largest_unit, pack, stored_exponent, stored_layer}
use Rattle.meaning.specs.Claim.{one_kind, Kept, Coded, LeastHolding, layer_at, PackClaim, Demand3}
use Rattle.meaning.proofs.Sizes.{spacing_mono}
use Rattle.meaning.proofs.Patterns.{finite_below, size_below, position_plus, position_minus, magnitude_of_size, magnitude_of_mono}
use Rattle.meaning.proofs.Accepted.{and_first, and_second}
use Rattle.meaning.proofs.OneReading.{is_trimmable, trimmable_below}
use Rattle.meaning.proofs.Packing.{Packable, CodedIn, layer_holds, layer_least, layer_codes, singles_held, codes_apart}
use Rattle.meaning.proofs.Elements.{all_at}
use Rattle.meaning.proofs.Layering.{part_long, part_at_lem, map_at, zip_at, zip_length, flat_at, flat_length}
use Rattle.meaning.proofs.Exponents.{count_back, exponent_back, exponent_range, exponent_order}
use Rattle.meaning.proofs.Claim.{list_claim}

-- ---- what an accepted packing's questions give

ask_yes : {A : Type 0} (b : Bool) (n : ℕ) (rest : Outcome A) (a : A) → ask b n rest ≡ accepted a → (b ≡ true) × (rest ≡ accepted a)
unfolding ask
ask_yes true n rest a e = (refl, e)
ask_yes false n rest a e = let z : ◌≡◌ {A = ℕ} 0 1 = cc in absurd (omega arith)

or_first : (a b : Bool) → a || b ≡ true → b ≡ false → a ≡ true
or_first true b e f = refl
or_first false b e f = absurd (true≢false (sym e ∙ f))

pub record Asked (mark L : ℕ) (widths vs : List ℕ) : Type 0 where
  pub some : 1 ≤ L
  pub most : L ≤ 65536
  pub whole : length vs % L ≡ 0
  pub one_width : length widths ≡ length vs / L
  pub widths_known : all width_in_range widths ≡ true
  pub packable : Packable 23 8 mark vs

pub asked : (mark L : ℕ) (widths vs : List ℕ) (c r e : ℕ) → pack_questions mark L widths vs c r e ≡ accepted tt → Asked mark L widths vs
unfolding pack_questions layer_questions missing
asked mark L widths vs c r e h =
    let q3 = ask_yes (length_in_range L) 3 _ tt h in
    let q4 = ask_yes (whole (length vs) L) 4 _ tt q3.1 in
    let q5 = ask_yes (eqb c (length vs) && eqb (length widths) (length vs / L) && all (λ k. eqb k (length vs / L)) (r ∷ e ∷ [])) 5 _ tt q4.1 in
    let q11 = ask_yes (all width_in_range widths) 11 _ tt q5.1 in
    let q6 = ask_yes (all (λ w. finite 23 8 w || eqb w mark) vs) 6 _ tt q11.1 in
    record {
      some = leb-true 1 L (and_first (leb 1 L) (leb L 65536) q3.0);
      most = leb-true L 65536 (and_second (leb 1 L) (leb L 65536) q3.0);
      whole = eqb-true (length vs % L) 0 q4.0;
      one_width =
          eqb-true (length widths) (length vs / L)
          (and_second (eqb c (length vs)) (eqb (length widths) (length vs / L))
          (and_first (eqb c (length vs) && eqb (length widths) (length vs / L)) (all (λ k. eqb k (length vs / L)) (r ∷ e ∷ [])) q5.0));
      widths_known = q11.0;
      packable = λ i l p.
          finite_below 23 8 (get_or vs i 0)
          (or_first (finite 23 8 (get_or vs i 0)) (eqb (get_or vs i 0) mark) (all_at (λ w. finite 23 8 w || eqb w mark) 0 vs q6.0 i l) (ne_eqb (get_or vs i 0) mark p));
    }

-- ---- the layer of a place, as it was packed and as it is stored

stored_layer_lem : (l : Layer) → stored_layer l.width l.reference (stored_exponent l) ≡ l
unfolding stored_layer stored_exponent
stored_layer_lem l = ap (λ (e : ℕ). record { width = l.width; reference = l.reference; exponent = e }) (count_back l.exponent)

module _ (mark L : ℕ) (widths vs codes references : List ℕ) (exponents : List ℤ) (yes-answer : (pack mark L widths vs codes references exponents).answer ≡ accepted tt) where
  abbrev left : AfterPack
  left = pack mark L widths vs codes references exponents

  -- layer j of the readings, its width, and the layer that it makes
  abbrev part : ℕ → List ℕ
  part j = take L (drop (j * L) vs)

  abbrev width : ℕ → ℕ
  width j = get_or widths j 0

  abbrev packed : ℕ → Layer
  packed j = layer_of 23 8 277 mark (get_or widths j 0) (take L (drop (j * L) vs))

  pub all_asked : Asked mark L widths vs
  unfolding pack
  all_asked = asked mark L widths vs (length codes) (length references) (length exponents) yes-answer

  codes_are : left.codes ≡ packed_codes 23 8 277 mark L widths vs
  unfolding pack leaving
  codes_are = rw yes-answer refl

  references_are : left.references ≡ map (λ l. l.reference) (packed_layers 23 8 277 mark L widths vs)
  unfolding pack leaving
  references_are = rw yes-answer refl

  exponents_are : left.exponents ≡ map stored_exponent (packed_layers 23 8 277 mark L widths vs)
  unfolding pack leaving
  exponents_are = rw yes-answer refl

  pub in_layers : length vs / L * L ≡ length vs
  in_layers = omega (arith, div-add-mod' (length vs) L, all_asked.whole)

  pub codes_long : length left.codes ≡ length vs
  unfolding packed_codes layers
  codes_long =
      ap length codes_are
      ∙ flat_length L 0 (λ w layer. map (code 23 8 mark (layer_of 23 8 277 mark w layer)) layer) (λ w l. length-map l (code 23 8 mark (layer_of 23 8 277 mark w l)))
      (length vs / L) widths vs all_asked.one_width (omega (arith, in_layers))
      ∙ in_layers

  -- as many references and exponents as layers
  one_each : {A : Type 0} (f : Layer → A) → length (map f (packed_layers 23 8 277 mark L widths vs)) ≡ length vs / L
  unfolding packed_layers layers
  one_each f = length-map (zip_with (layer_of 23 8 277 mark) widths (runs L (length vs / L) vs)) f ∙ zip_length L 0 (layer_of 23 8 277 mark) (length vs / L) widths vs all_asked.one_width

  pub references_long : length left.references ≡ length vs / L
  references_long = ap length references_are ∙ one_each (λ l. l.reference)

  pub exponents_long : length left.exponents ≡ length vs / L
  exponents_long = ap length exponents_are ∙ one_each stored_exponent

  module _ (j : ℕ) (h : j < length vs / L) where
    -- one thing for each layer, found at its place
    layer_at_lem : {A : Type 0} (f : Layer → A) (z : A) → get_or (map f (packed_layers 23 8 277 mark L widths vs)) j z ≡ f (packed j)
    unfolding packed_layers layers
    layer_at_lem f z =
        map_at f none z (zip_with (layer_of 23 8 277 mark) widths (runs L (length vs / L) vs)) j
        (rw (zip_length L 0 (layer_of 23 8 277 mark) (length vs / L) widths vs all_asked.one_width) h)
        ∙ ap f (zip_at L 0 (layer_of 23 8 277 mark) none (length vs / L) j widths vs all_asked.one_width h)
      where
        none : Layer
        none = record { width = 0; reference = 0; exponent = 0 }

    pub stored_at : layer_at widths left.references left.exponents j ≡ packed j
    unfolding layer_of
    stored_at =
        rw (references_are, exponents_are, layer_at_lem (λ l. l.reference) 0, layer_at_lem stored_exponent (pos 0)) (stored_layer_lem (packed j))

    pub width_known : width_in_range (get_or widths j 0) ≡ true
    width_known = all_at width_in_range 0 widths all_asked.widths_known j (rw all_asked.one_width h)

    -- its width is at least 2
    width_low : 2 ≤ width j
    width_low = leb-true 2 (width j) (and_first (leb 2 (width j)) (leb (width j) 16) width_known)

    pub room : j * L + L ≤ length vs
    room = omega (arith, in_layers, mul-le-mul_right L h)

    part_length : length (part j) ≡ L
    part_length = part_long L j vs room

    pub part_packable : Packable 23 8 mark (take L (drop (j * L) vs))
    part_packable i k p =
        let l : i < L = omega (arith, part_length) in
        rw (part_at_lem L j vs i l) (all_asked.packable (j * L + i) (omega (arith, room)) (λ e. p (part_at_lem L j vs i l ∙ e)))

    pub width_packed : 2 ≤ (packed j).width
    unfolding layer_of
    width_packed = width_low

    part_held : holds (width j) (span 23 8 (summary 23 8 mark (part j))) 277 ≡ true
    part_held = singles_held mark (width j) (part j) width_low part_packable

    code_at : (i : ℕ) → i < L → get_or left.codes (j * L + i) 0 ≡ code 23 8 mark (packed j) (get_or (part j) i 0)
    unfolding packed_codes layers
    code_at i k =
        ap (λ (l : List ℕ). get_or l (j * L + i) 0) codes_are
        ∙ flat_at L 0 (λ w layer. map (code 23 8 mark (layer_of 23 8 277 mark w layer)) layer) (λ w l. length-map l (code 23 8 mark (layer_of 23 8 277 mark w l)))
        (length vs / L) j i widths vs all_asked.one_width (omega (arith, in_layers)) h k
        ∙ map_at (code 23 8 mark (packed j)) 0 0 (part j) i (omega (arith, part_length))

    -- what a place of the layer got
    pub coded_at : (i : ℕ) → i < L
        → CodedIn 23 8 mark (layer_of 23 8 277 mark (get_or widths j 0) (take L (drop (j * L) vs))) (get_or vs (j * L + i) 0) (get_or left.codes (j * L + i) 0)
    coded_at i k =
        rw (code_at i k, ← part_at_lem L j vs i k) (layer_codes 23 8 277 mark (width j) (part j) part_held i (omega (arith, part_length)))

    exponent_at : get_or left.exponents j (pos 0) ≡ stored_exponent (packed j)
    exponent_at = rw (exponents_are) (layer_at_lem stored_exponent (pos 0))

    least_at : LeastHolding (get_or widths j 0) (span 23 8 (summary 23 8 mark (part j))) (get_or left.exponents j (pos 0))
    unfolding stored_exponent
    least_at =
        rw exponent_at
        (record {
          in_range = exponent_range (packed j).exponent (layer_least 23 8 277 mark (width j) (part j) part_held 277 part_held);
          itself = rw (count_back (packed j).exponent) (layer_holds 23 8 277 mark (width j) (part j) part_held);
          others_larger = λ d r k n. larger d (and_first (le_z (neg_ℤ (pos 149)) d) (le_z d (pos 128)) r) k n;
        })
      where
        larger : (d : ℤ) → le_z (neg_ℤ (pos 149)) d ≡ true → holds (width j) (span 23 8 (summary 23 8 mark (part j))) (above 149 d) ≡ true → d ≢ sub_ℕ (packed j).exponent 149
            → lt_z (sub_ℕ (packed j).exponent 149) d ≡ true
        larger d r k n =
            let l : (packed j).exponent ≤ above 149 d = layer_least 23 8 277 mark (width j) (part j) part_held (above 149 d) k in
            let o : above 149 d ≢ (packed j).exponent = λ e. n (sym (exponent_back d r) ∙ ap (λ (x : ℕ). sub_ℕ x 149) e) in
            subst (λ (x : ℤ). lt_z (sub_ℕ (packed j).exponent 149) x ≡ true) (exponent_back d r) (exponent_order (packed j).exponent (above 149 d) (omega arith))

-- ---- the unit at the largest reading that a code can stand for

module _ (F : ℕ) where
  unit_mono : (x : Method) (m n : ℕ) → m ≤ n → unit F x m ≤ unit F x n
  unfolding unit spacing
  unit_mono (tail c k) m n h = mul-le-mul_left (2 ^ (F - k)) (pow_mono (spacing_mono F h))
  unit_mono (round k) m n h = mul-le-mul_left (2 ^ (F - k)) (pow_mono (spacing_mono F h))
  unit_mono (absolute q) m n h = le_refl (2 ^ q)
  unit_mono (digits k) m n h = le_refl 0

  pub largest_mono : (xs : List Method) (m n : ℕ) → m ≤ n → largest_unit F xs m ≤ largest_unit F xs n
  unfolding largest_unit
  largest_mono [] m n h = le_refl 0
  largest_mono (x ∷ xs) m n h = omega (arith, unit_mono x m n h, largest_mono xs m n h)

-- a finite single lies its size from zero
from_origin : (v : ℕ) → magnitude 23 8 v < infinity 23 8 → size 23 (magnitude 23 8 v) ≡ distance (position 23 8 v) (origin 23 8)
unfolding distance
from_origin v f = go (ℕ_discrete (sign 23 8 v) 0)
  where
    go : Dec (sign 23 8 v ≡ 0) → size 23 (magnitude 23 8 v) ≡ distance (position 23 8 v) (origin 23 8)
    go (yes z) = rw (position_plus 23 8 v z) (omega arith)
    go (no z) = rw (position_minus 23 8 v z) (omega (arith, size_below 23 8 f))

half_further : (a b c g : ℕ) → 2 * distance a b ≤ g → distance a c ≤ distance b c + g / 2
unfolding distance
half_further a b c g h = omega arith

-- a value p within half a step of v bounds its magnitude
pub magnitude_bound : (v p g : ℕ) → magnitude 23 8 v < infinity 23 8 → 2 * distance (position 23 8 v) p ≤ g
    → magnitude 23 8 v ≤ magnitude_of 23 8 (distance p (origin 23 8) + g / 2)
magnitude_bound v p g f h =
    omega (
      arith,
      magnitude_of_size 23 8 (magnitude 23 8 v) f,
      magnitude_of_mono 23 8 (size 23 (magnitude 23 8 v)) (distance p (origin 23 8) + g / 2) (rw (from_origin v f) (half_further (position 23 8 v) p (origin 23 8) g h)),
    )

-- ---- one place, from the original to its code

module _ (mark : ℕ) (xs : List Method) (l : Layer) (w v c : ℕ) (k : Kept 23 8 mark xs w v) (b : 2 ≤ l.width) (r : CodedIn 23 8 mark l v c) (f : v ≢ mark → magnitude 23 8 v < infinity 23 8) where
  pub trimmed_one : w ≢ mark → trimmable 23 8 mark w ≡ true
  trimmed_one p = go (dec_lt (magnitude 23 8 w) (infinity 23 8)) (trimmable 23 8 mark w) refl
    where
      go : Dec (magnitude 23 8 w < infinity 23 8) → (b : Bool) → trimmable 23 8 mark w ≡ b → trimmable 23 8 mark w ≡ true
      go (yes h) b e = is_trimmable 23 8 mark w p h
      go (no h) true e = e
      go (no h) false e = absurd (h (rw (k.others_stay e) at (f (λ m. p (k.mark_stays.0 m)))))

  pub still_here : w ≢ mark → v ≢ mark
  still_here p m = p (k.mark_stays.0 m)

  -- a unit that the trimmed reading's distance keeps to, and half a step
  further : w ≢ mark → (u : ℕ) → distance (position 23 8 w) (position 23 8 v) < u → 2 * distance (position 23 8 w) (code_meaning 23 8 l c) < 2 * u + 2 ^ l.exponent
  unfolding distance
  further p u h = omega (arith, r.half_step (still_here p))

  pub coded : Coded mark xs w l c
  coded =
      record {
        is_missing_code = (λ e. back e (ℕ_discrete w mark), λ p. r.is_missing_code (k.mark_stays.1 p));
        in_width = kept (ℕ_discrete v mark);
        near = λ p. further p (largest_unit 23 xs (magnitude 23 8 w)) (k.near (trimmed_one p));
        near_left = λ p.
            further p (largest_unit 23 xs (magnitude_of 23 8 (distance (code_meaning 23 8 l c) (origin 23 8) + 2 ^ l.exponent / 2)))
            (lt_of_lt_of_le (k.near_left (trimmed_one p))
            (largest_mono 23 xs (magnitude 23 8 v) (magnitude_of 23 8 (distance (code_meaning 23 8 l c) (origin 23 8) + 2 ^ l.exponent / 2))
            (magnitude_bound v (code_meaning 23 8 l c) (2 ^ l.exponent) (f (still_here p)) (r.half_step (still_here p)))));
      }
    where
      kept : Dec (v ≡ mark) → c ≤ missing_code l.width
      kept (yes e) = omega (arith, r.is_missing_code e)
      kept (no e) = omega (arith, r.other_code e, codes_apart l.width (omega arith))

      back : c ≡ missing_code l.width → Dec (w ≡ mark) → w ≡ mark
      back e (yes p) = p
      back e (no p) = absurd (omega (arith, e, r.other_code (still_here p), codes_apart l.width (omega arith)))

-- ---- the whole

module _ (cs : List Call) (mark : ℕ) (ws : List ℕ) (some : 0 < length (accepted_calls 23 8 cs)) (kind : one_kind (accepted_calls 23 8 cs) ≡ true) (L : ℕ) (widths codes references : List ℕ) (exponents : List ℤ)
    (yes-answer : (pack mark L widths (in_turn 23 8 cs mark ws) codes references exponents).answer ≡ accepted tt) where
  abbrev vs : List ℕ
  vs = in_turn 23 8 cs mark ws

  abbrev p : AfterPack
  p = pack mark L widths vs codes references exponents

  pub same_length : length (in_turn 23 8 cs mark ws) ≡ length ws
  same_length = (list_claim 23 8 cs mark ws).as_long

  same_layers : length vs / L ≡ length ws / L
  same_layers = ap (λ (x : ℕ). x / L) same_length

  a : Asked mark L widths vs
  a = all_asked mark L widths vs codes references exponents yes-answer

  full : length vs / L * L ≡ length vs
  full = in_layers mark L widths vs codes references exponents yes-answer

  -- place i of layer j
  module _ (j i : ℕ) (h : j < length vs / L) (k : i < L) where
    place : j * L + i < length vs
    place = omega (arith, room mark L widths vs codes references exponents yes-answer j h)

    kept_at : Kept 23 8 mark (accepted_calls 23 8 cs) (get_or ws (j * L + i) 0) (get_or vs (j * L + i) 0)
    kept_at = (list_claim 23 8 cs mark ws).each_place some kind (j * L + i) (omega (arith, same_length, place))

    pub coded_sent : Coded mark (accepted_calls 23 8 cs) (get_or ws (j * L + i) 0) (layer_at widths p.references p.exponents j) (get_or p.codes (j * L + i) 0)
    coded_sent =
        rw (stored_at mark L widths vs codes references exponents yes-answer j h)
        (coded mark (accepted_calls 23 8 cs) (packed mark L widths vs codes references exponents yes-answer j) (get_or ws (j * L + i) 0) (get_or vs (j * L + i) 0) (get_or p.codes (j * L + i) 0)
        kept_at (width_packed mark L widths vs codes references exponents yes-answer j h)
        (coded_at mark L widths vs codes references exponents yes-answer j h i k) (a.packable (j * L + i) place))

    -- a reading that is packed was finite before it was trimmed
    pub sent_below : get_or ws (j * L + i) 0 ≢ mark → magnitude 23 8 (get_or ws (j * L + i) 0) < infinity 23 8
    sent_below n =
        trimmable_below 23 8 mark (get_or ws (j * L + i) 0)
        (trimmed_one mark (accepted_calls 23 8 cs) (packed mark L widths vs codes references exponents yes-answer j) (get_or ws (j * L + i) 0) (get_or vs (j * L + i) 0) (get_or p.codes (j * L + i) 0)
        kept_at (width_packed mark L widths vs codes references exponents yes-answer j h)
        (coded_at mark L widths vs codes references exponents yes-answer j h i k) (a.packable (j * L + i) place) n)

  pub pack_claim : PackClaim cs mark ws L widths (pack mark L widths (in_turn 23 8 cs mark ws) codes references exponents)
  pack_claim =
      record {
        widths_long = a.one_width ∙ same_layers;
        codes_long = codes_long mark L widths vs codes references exponents yes-answer ∙ same_length;
        references_long = references_long mark L widths vs codes references exponents yes-answer ∙ same_layers;
        exponents_long = exponents_long mark L widths vs codes references exponents yes-answer ∙ same_layers;
        each_code = λ i h. at i h;
        each_layer = λ j h. least_at mark L widths vs codes references exponents yes-answer j (rw (← same_length) at h);
      }
    where
      at : (i : ℕ) → i < length ws
          → Coded mark (accepted_calls 23 8 cs) (get_or ws i 0) (layer_at widths p.references p.exponents (i / L)) (get_or p.codes i 0)
      at i h =
          subst (λ (x : ℕ). Coded mark (accepted_calls 23 8 cs) (get_or ws x 0) (layer_at widths p.references p.exponents (i / L)) (get_or p.codes x 0))
          (div-add-mod' i L)
          (coded_sent (i / L) (i % L) ((div-lt_iff_lt-mul {k = L} {x = i} {y = length vs / L} a.some).1 (omega (arith, full, same_length))) (mod-lt i a.some))

pub demand_3 : Demand3
demand_3 = record { singles = list_claim 23 8; doubles = list_claim 52 11; packing = pack_claim }
