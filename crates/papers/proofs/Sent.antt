-- From what was sent to the doubles: an accepted packing can be unpacked, a place of the doubles is what its code unpacks to, and that keeps demand 3's bound.
use mathlib.Core.Path.{◌≡◌, refl, sym, ap, ◌∙◌, subst}
use mathlib.Core.Logic.{◌⊎◌, inl, inr, ◌≢◌}
use mathlib.Core.Bool.{Bool, true}
use mathlib.Core.List.{List, map, zip_with, flatten}
use Prim.Native.Nat.{ℕ, ◌+◌, ◌*◌, ◌/◌, ◌%◌, ◌^◌, ◌≤◌, ◌<◌}
use native.Mathlib.Nat.{div-add-mod', div-lt_iff_lt-mul, mod-lt, le-div_iff_mul-le, mul-le-mul_right, pow-suc}
use native.Mathlib.Decide.{ℕ_discrete}
use native.Mathlib.Omega.{arith}
use borrow.Author.Tests.{le-leb, leb-true, eq-eqb, ltb-true}
use lib.Dec.{leb}
use lib.IntN.{ℤ, pos}
use lib.ListN.{length, get_or, take, drop, length-map}
use lib.Pow.{pow_pos}
use Rattle.meaning.specs.Readings.{size, sign, magnitude, infinity, finite, magnitude_of, origin, position, distance, present}
use Rattle.meaning.specs.Methods.{Method, trimmable}
use Rattle.meaning.specs.Layers.{Layer, missing_code, runs, layers, layer_of, unpacked_code, unpacked_codes}
use Rattle.meaning.specs.Questions.{accepted, ask, all, is_nan, width_in_range, exponent_in_range, code_in_range, layer_questions, unpack_questions}
use Rattle.meaning.specs.Calls.{Call, AfterPack, AfterUnpack, leaving, in_turn, accepted_calls, largest_unit, pack, unpack, stored_layer, stored_layers}
use Rattle.meaning.specs.Claim.{one_kind, Kept, layer_at, PackClaim}
use Rattle.meaning.proofs.Accepted.{and_first, and_second}
use Rattle.meaning.proofs.Patterns.{finite_below, size_below, position_plus, position_minus, magnitude_of_size, magnitude_of_mono}
use Rattle.meaning.proofs.Packing.{Packable, CodedIn, layer_least, singles_held, codes_apart}
use Rattle.meaning.proofs.References.{reference_finite}
use Rattle.meaning.proofs.Elements.{all_at, all_pass, layers_long, layers_at}
use Rattle.meaning.proofs.Layering.{part_long, part_at_lem, map_at, zip_at, zip_length, flat_at, flat_length}
use Rattle.meaning.proofs.Claim.{list_claim}
use Rattle.meaning.proofs.Packed.{Asked, all_asked, in_layers, stored_at, room, part_packable, coded_at, trimmed_one, still_here, largest_mono, demand_3}
use Rattle.papers.specs.LayerBounds.{layer}
use Rattle.papers.specs.Unpacked.{SentDouble, UnpackClaim, SentUnpacked, CodeOf, double, apart}
use Rattle.papers.proofs.Doubles.{code_small, double_finite}
use Rattle.papers.proofs.Unpacked.{is_unpacked, half_kept, sent_by, unpacked}

-- question 12 of a layer's codes
abbrev in_range : ℕ → List ℕ → Bool
in_range w own = all (code_in_range w) own

-- ---- a single within half a step of a double

either_side : (F X w : ℕ) → finite F X w ≡ true
    → (position F X w ≡ origin F X + size F (magnitude F X w)) ⊎ (position F X w + size F (magnitude F X w) ≡ origin F X)
either_side F X w f = go (ℕ_discrete (sign F X w) 0)
  where
    go : Dec (sign F X w ≡ 0) → (position F X w ≡ origin F X + size F (magnitude F X w)) ⊎ (position F X w + size F (magnitude F X w) ≡ origin F X)
    go (yes z) = inl (position_plus F X w z)
    go (no z) = inr (rw (position_minus F X w z) (omega (arith, size_below F X (finite_below F X w f))))

-- a size s on either side of z, and t on either side of O
size_reach : (p z s D O t G : ℕ) → (p ≡ z + s) ⊎ (p + s ≡ z) → (D ≡ O + t) ⊎ (D + t ≡ O) → s * G ≤ t + distance (p * G + O) (D + z * G)
unfolding distance
size_reach p z s D O t G (inl a) (inl b) = omega (arith, ap (λ (x : ℕ). x * G) a)
size_reach p z s D O t G (inl a) (inr b) = omega (arith, ap (λ (x : ℕ). x * G) a)
size_reach p z s D O t G (inr a) (inl b) = omega (arith, ap (λ (x : ℕ). x * G) a)
size_reach p z s D O t G (inr a) (inr b) = omega (arith, ap (λ (x : ℕ). x * G) a)

half_of : (x t d g G H : ℕ) → G ≡ 2 * H → x ≤ t + d → 2 * d ≤ g * G → x ≤ t + g * H
half_of x t d g G H e a b = omega (arith, ap (λ (y : ℕ). g * y) e)

size_bound : (v d g : ℕ) → finite 23 8 v ≡ true → finite 52 11 d ≡ true → 2 * apart v d ≤ g * 2 ^ 925
    → magnitude 23 8 v ≤ magnitude_of 23 8 ((size 52 (magnitude 52 11 d) + g * 2 ^ 924) / 2 ^ 925)
size_bound v d g f k h =
    omega (
      arith,
      magnitude_of_size 23 8 (magnitude 23 8 v) (finite_below 23 8 v f),
      magnitude_of_mono 23 8 s ((t + g * 2 ^ 924) / 2 ^ 925) ((le-div_iff_mul-le {k = 2 ^ 925} (pow_pos 925)).1 far),
    )
  where
    s : ℕ
    s = size 23 (magnitude 23 8 v)

    t : ℕ
    t = size 52 (magnitude 52 11 d)

    reach : s * 2 ^ 925 ≤ t + apart v d
    reach = size_reach (position 23 8 v) (origin 23 8) s (position 52 11 d) (origin 52 11) t (2 ^ 925) (either_side 23 8 v f) (either_side 52 11 d k)

    far : s * 2 ^ 925 ≤ t + g * 2 ^ 924
    far = half_of (s * 2 ^ 925) t (apart v d) g (2 ^ 925) (2 ^ 924) (pow-suc 2 924) reach h

-- ---- one place

module _ (mark doubleMark : ℕ) (xs : List Method) (l : Layer) (w v c : ℕ) (kept : Kept 23 8 mark xs w v) (least : 2 ≤ l.width) (most : l.width ≤ 16)
    (r : CodedIn 23 8 mark l v c) (f : v ≢ mark → magnitude 23 8 v < infinity 23 8) (g : finite 23 8 l.reference ≡ true) (e : l.exponent ≤ 277) (nan : is_nan 52 11 doubleMark ≡ true) where
  abbrev y : ℕ
  y = unpacked_code doubleMark l c

  trims : w ≢ mark → trimmable 23 8 mark w ≡ true
  trims p = trimmed_one mark xs l w v c kept least r f p

  here : w ≢ mark → v ≢ mark
  here p = still_here mark xs l w v c kept least r f p

  code_below : w ≢ mark → CodeOf l c
  code_below p = (most, omega (arith, r.other_code (here p), codes_apart l.width (omega arith)))

  is_double : w ≢ mark → y ≡ double l c
  is_double p = is_unpacked doubleMark l c (code_below p).1

  is_finite : w ≢ mark → finite 52 11 y ≡ true
  is_finite p = rw (is_double p) (double_finite l c g e (code_small l c (code_below p)))

  marked : w ≡ mark → y ≡ doubleMark
  unfolding unpacked_code
  marked p = rw (eq-eqb c (missing_code l.width) (r.is_missing_code (kept.mark_stays.1 p))) refl

  only_marked : Dec (w ≡ mark) → y ≡ doubleMark → w ≡ mark
  unfolding is_nan
  only_marked (yes p) z = p
  only_marked (no p) z =
      absurd (omega (arith, rw z at (finite_below 52 11 y (is_finite p)), ltb-true (infinity 52 11) (magnitude 52 11 doubleMark) nan))

  largest_double : (p : w ≢ mark)
      → largest_unit 23 xs (magnitude 23 8 v) ≤ largest_unit 23 xs (magnitude_of 23 8 ((size 52 (magnitude 52 11 y) + 2 ^ l.exponent * 2 ^ 924) / 2 ^ 925))
  largest_double p =
      largest_mono 23 xs (magnitude 23 8 v) (magnitude_of 23 8 ((size 52 (magnitude 52 11 y) + 2 ^ l.exponent * 2 ^ 924) / 2 ^ 925))
      (size_bound v y (2 ^ l.exponent) (kept.finite_stays (trims p)) (is_finite p)
      (rw (is_double p) (half_kept l c v g e (code_below p) (kept.finite_stays (trims p)) (r.half_step (here p)))))

  sent_double : SentDouble mark doubleMark xs w l c (unpacked_code doubleMark l c)
  unfolding trimmable
  sent_double =
      record {
        missing_double = (only_marked (ℕ_discrete w mark), marked);
        both_finite = λ p. (and_second (present mark w) (finite 23 8 w) (trims p), is_finite p);
        near = λ p. rw (is_double p) (unpacked.sent_kept mark xs w v l c g e (code_below p) (trims p) kept (r.half_step (here p)));
        near_left = λ p. rw (is_double p) (unpacked.sent_kept_left mark xs w v l c g e (code_below p) (trims p) kept (r.half_step (here p)));
        near_double = λ p.
            rw (is_double p)
            (sent_by mark xs w v l c g e (code_below p) (trims p) kept (r.half_step (here p)) _ (omega (arith, kept.near_left (trims p), rw (is_double p) at (largest_double p))));
      }

-- ---- the whole

module _ (cs : List Call) (mark : ℕ) (ws : List ℕ) (some : 0 < length (accepted_calls 23 8 cs)) (kind : one_kind (accepted_calls 23 8 cs) ≡ true) (L : ℕ)
    (widths codes references : List ℕ) (exponents : List ℤ) (packs : (pack mark L widths (in_turn 23 8 cs mark ws) codes references exponents).answer ≡ accepted tt)
    (doubleMark : ℕ) (doubles : List ℕ) (nan : is_nan 52 11 doubleMark ≡ true) (long : length doubles ≡ length ws) where
  abbrev vs : List ℕ
  vs = in_turn 23 8 cs mark ws

  abbrev p : AfterPack
  p = pack mark L widths vs codes references exponents

  abbrev u : AfterUnpack
  u = unpack doubleMark L widths p.codes p.references p.exponents doubles

  abbrev stored : ℕ → Layer
  stored j = layer_at widths p.references p.exponents j

  a : Asked mark L widths vs
  a = all_asked mark L widths vs codes references exponents packs

  claim : PackClaim cs mark ws L widths p
  claim = demand_3.packing cs mark ws some kind L widths codes references exponents packs

  same : length vs ≡ length ws
  same = (list_claim 23 8 cs mark ws).as_long

  full : length ws / L * L ≡ length ws
  full = rw same at (in_layers mark L widths vs codes references exponents packs)

  widths_long : length widths ≡ length ws / L
  widths_long = rw same at a.one_width

  module _ (j : ℕ) (h : j < length ws / L) where
    abbrev part : List ℕ
    part = take L (drop (j * L) vs)

    abbrev width : ℕ
    width = get_or widths j 0

    in_vs : j < length vs / L
    in_vs = rw same h

    layer_is : stored j ≡ layer mark width part
    layer_is = stored_at mark L widths vs codes references exponents packs j in_vs

    known : width_in_range width ≡ true
    known = all_at width_in_range 0 widths a.widths_known j (rw widths_long h)

    width_least : 2 ≤ width
    width_least = leb-true 2 width (and_first (leb 2 width) (leb width 16) known)

    width_most : width ≤ 16
    width_most = leb-true width 16 (and_second (leb 2 width) (leb width 16) known)

    packable : Packable 23 8 mark part
    packable = part_packable mark L widths vs codes references exponents packs j in_vs

    layer_finite : finite 23 8 (layer mark width part).reference ≡ true
    layer_finite = reference_finite 277 mark width part packable

    finite_at : finite 23 8 (get_or p.references j 0) ≡ true
    unfolding stored_layer
    finite_at = ap (λ (l : Layer). finite 23 8 l.reference) layer_is ∙ layer_finite

    few_steps : (layer mark width part).exponent ≤ 277
    few_steps = let held = singles_held mark width part width_least packable in layer_least 23 8 277 mark width part held 277 held

    in_layer : (i : ℕ) → i < L
        → let c = get_or p.codes (j * L + i) 0 in
        SentDouble mark doubleMark (accepted_calls 23 8 cs) (get_or ws (j * L + i) 0) (stored j) c (unpacked_code doubleMark (stored j) c)
    unfolding layer_of
    in_layer i k =
        let b : j * L + i < length vs = omega (arith, room mark L widths vs codes references exponents packs j in_vs) in
        rw layer_is
        (sent_double mark doubleMark (accepted_calls 23 8 cs) (layer mark width part) (get_or ws (j * L + i) 0) (get_or vs (j * L + i) 0) (get_or p.codes (j * L + i) 0)
        ((list_claim 23 8 cs mark ws).each_place some kind (j * L + i) (omega (arith, same))) width_least width_most
        (coded_at mark L widths vs codes references exponents packs j in_vs i k) (a.packable (j * L + i) b) layer_finite few_steps nan)

    -- the layer's part of the codes
    abbrev own : List ℕ
    own = take L (drop (j * L) p.codes)

    own_long : length own ≡ L
    own_long = part_long L j p.codes (omega (arith, claim.codes_long, full, mul-le-mul_right L h))

    own_at : (i : ℕ) → i < L → get_or own i 0 ≡ get_or p.codes (j * L + i) 0
    own_at i k = part_at_lem L j p.codes i k

    -- no code is above the missing one
    codes_known_lem : in_range width own ≡ true
    unfolding layer_of
    codes_known_lem = all_pass (code_in_range width) 0 own (λ i k. rw (own_at i (rw own_long at k)) (le-leb _ (missing_code width) (at_most i (rw own_long at k))))
      where
        at_most : (i : ℕ) → i < L → get_or p.codes (j * L + i) 0 ≤ missing_code width
        at_most i k = go (ℕ_discrete (get_or vs (j * L + i) 0) mark)
          where
            r : CodedIn 23 8 mark (layer mark width part) (get_or vs (j * L + i) 0) (get_or p.codes (j * L + i) 0)
            r = coded_at mark L widths vs codes references exponents packs j in_vs i k

            go : Dec (get_or vs (j * L + i) 0 ≡ mark) → get_or p.codes (j * L + i) 0 ≤ missing_code width
            go (yes e) = omega (arith, r.is_missing_code e)
            go (no e) = omega (arith, r.other_code e, codes_apart width (omega (arith, width_least)))

  all_known : all (λ good. good) (zip_with in_range widths (runs L (length ws / L) p.codes)) ≡ true
  all_known =
      all_pass (λ good. good) true (zip_with in_range widths (runs L (length ws / L) p.codes)) (λ j h.
      let k : j < length ws / L = rw (zip_length L 0 in_range (length ws / L) widths p.codes widths_long) at h in
      zip_at L 0 in_range true (length ws / L) j widths p.codes widths_long k ∙ codes_known_lem j k)

  -- every question of the unpacking
  answer_is : u.answer ≡ accepted tt
  unfolding unpack unpack_questions layer_questions ask all layers
  answer_is =
      rw (
        claim.codes_long,
        claim.references_long,
        claim.exponents_long,
        long,
        widths_long,
        le-leb 1 L a.some,
        le-leb L 65536 a.most,
        rw same at a.whole,
        eq-eqb (length ws) (length ws) refl,
        eq-eqb (length ws / L) (length ws / L) refl,
        a.widths_known,
        all_pass (finite 23 8) 0 p.references (λ j h. finite_at j (rw claim.references_long at h)),
        all_pass exponent_in_range (pos 0) p.exponents (λ j h. (claim.each_layer j (rw claim.exponents_long at h)).in_range),
        nan,
        all_known,
      )
      refl

  abbrev ls : List Layer
  ls = stored_layers widths p.references p.exponents

  abbrev unpacked_part : Layer → List ℕ → List ℕ
  unpacked_part l own = map (unpacked_code doubleMark l) own

  unpacked_long : (l : Layer) (own : List ℕ) → length (unpacked_part l own) ≡ length own
  unpacked_long l own = length-map own (unpacked_code doubleMark l)

  readings_are : u.readings ≡ flatten (zip_with unpacked_part ls (runs L (length ws / L) p.codes))
  unfolding unpack leaving unpacked_codes layers
  readings_are = rw (answer_is, claim.codes_long) refl

  unpack_claim : UnpackClaim cs mark ws L widths p doubleMark u
  unpack_claim =
      record {
        is_accepted = answer_is;
        doubles_long = ap length readings_are ∙ flat_length L none unpacked_part unpacked_long (length ws / L) ls p.codes ls_long codes_enough ∙ full;
        each_double = λ i h.
            subst (Sent (i / L)) (div-add-mod' i L) (place (i / L) (i % L) ((div-lt_iff_lt-mul {k = L} {x = i} {y = length ws / L} a.some).1 (omega (arith, full))) (mod-lt i a.some));
      }
    where
      none : Layer
      none = record { width = 0; reference = 0; exponent = 0 }

      references_long : length widths ≡ length p.references
      references_long = widths_long ∙ sym claim.references_long

      exponents_long : length widths ≡ length p.exponents
      exponents_long = widths_long ∙ sym claim.exponents_long

      ls_long : length ls ≡ length ws / L
      ls_long = layers_long widths p.references p.exponents references_long exponents_long ∙ widths_long

      codes_enough : length ws / L * L ≤ length p.codes
      codes_enough = omega (arith, full, claim.codes_long)

      Sent : ℕ → ℕ → Type 0
      Sent j x = SentDouble mark doubleMark (accepted_calls 23 8 cs) (get_or ws x 0) (stored j) (get_or p.codes x 0) (get_or u.readings x 0)

      -- what stands at place i of layer j
      double_at : (j i : ℕ) (h : j < length ws / L) → i < L → get_or u.readings (j * L + i) 0 ≡ unpacked_code doubleMark (stored j) (get_or p.codes (j * L + i) 0)
      double_at j i h k =
          ap (λ (x : List ℕ). get_or x (j * L + i) 0) readings_are
          ∙ flat_at L none unpacked_part unpacked_long (length ws / L) j i ls p.codes ls_long codes_enough h k
          ∙ ap (λ (l : Layer). get_or (unpacked_part l (own j h)) i 0) (layers_at widths p.references p.exponents references_long exponents_long none j (rw widths_long h))
          ∙ map_at (unpacked_code doubleMark (stored j)) 0 0 (own j h) i (rw (own_long j h) k) ∙ ap (unpacked_code doubleMark (stored j)) (own_at j h i k)

      place : (j i : ℕ) → j < length ws / L → i < L → Sent j (j * L + i)
      place j i h k = rw (double_at j i h k) (in_layer j h i k)

pub sent_unpacked : SentUnpacked
sent_unpacked = record { sent_unpacked = unpack_claim }
