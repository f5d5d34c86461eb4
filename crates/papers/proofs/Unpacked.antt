-- What unpacking makes of a code, how far that lies from the single that was packed and from the one that was sent, and what it makes of packing's codes.
use mathlib.Core.Path.{◌≡◌, refl, ◌∙◌}
use mathlib.Core.Logic.{◌⊎◌, inl, inr, ◌≢◌}
use mathlib.Core.Bool.{true}
use mathlib.Core.List.{List}
use Prim.Native.Nat.{ℕ, zero, suc, ◌+◌, ◌-◌, ◌*◌, ◌/◌, ◌^◌, ◌≤◌, ◌<◌}
use native.Mathlib.Nat.{mul-le-mul_right, pow-suc}
use native.Mathlib.Decide.{dec_lt, dec_le}
use native.Mathlib.Omega.{arith}
use borrow.Author.Tests.{ne_eqb}
use lib.Pow.{pow_pos, pow-add, pow_mono}
use lib.ListN.{length, get_or}
use Rattle.meaning.specs.Readings.{size, spacing_exp, magnitude, finite, magnitude_of, origin, position, distance}
use Rattle.meaning.specs.Methods.{Method, trimmable}
use Rattle.meaning.specs.Layers.{Layer, missing_code, holds, summary, span, layer_of, code, code_meaning, unpacked_code}
use Rattle.meaning.specs.Calls.{largest_unit}
use Rattle.meaning.specs.Claim.{Kept, Coded}
use Rattle.meaning.proofs.Nearest.{nearest_multiple}
use Rattle.meaning.proofs.Sizes.{Form, form, size_form}
use Rattle.meaning.proofs.Patterns.{finite_below}
use Rattle.meaning.proofs.Packing.{Packable, code_present, layer_least, layer_codes, singles_held, codes_apart}
use Rattle.meaning.proofs.References.{reference_finite}
use Rattle.meaning.proofs.Packed.{largest_mono, magnitude_bound}
use Rattle.papers.specs.LayerBounds.{layer, AllFinite}
use Rattle.papers.specs.Unpacked.{Unpacked, CodeOf, double, meaning_size, apart}
use Rattle.papers.proofs.Gaps.{gap}
use Rattle.papers.proofs.Doubles.{Few, n, code_low, code_small, whole, zero_bits, step_bits, held_bits, double_sign, within, by_bits, sent, half_exact, half_tiny}
use Rattle.papers.proofs.Distances.{through_step}

packed_held : (l : Layer) (c w : ℕ) → finite 23 8 l.reference ≡ true → finite 23 8 w ≡ true → c < missing_code l.width → position 23 8 l.reference < position 23 8 w
    → 2 * distance (position 23 8 w) (code_meaning 23 8 l c) ≤ 2 ^ l.exponent → spacing_exp 23 (magnitude 23 8 l.reference) ≤ l.exponent + l.width
unfolding code_meaning distance
packed_held l c w f g k h d = go (dec_le q (l.exponent + l.width))
  where
    q : ℕ
    q = spacing_exp 23 (magnitude 23 8 l.reference)

    -- 2 ^ q is less than 2 ^ (width + 1) steps
    most : 2 ^ q + 2 ^ l.exponent ≤ 2 * 2 ^ (l.exponent + l.width)
    most = omega (arith, gap l.reference w f g h, mul-le-mul_right (2 ^ l.exponent) (code_low l.width c k), pow-add 2 l.exponent l.width)

    go : Dec (q ≤ l.exponent + l.width) → q ≤ l.exponent + l.width
    go (yes o) = o
    go (no o) =
        let a : 2 ^ suc (l.exponent + l.width) ≤ 2 ^ q = pow_mono (omega arith) in
        absurd (omega (arith, most, rw (pow-suc 2 (l.exponent + l.width)) at a, pow_pos l.exponent))

reference_exact : (l : Layer) → finite 23 8 l.reference ≡ true → l.exponent ≤ 277 → size 52 (magnitude 52 11 (double l 0)) ≡ meaning_size l 0
reference_exact l f e = by_bits l 0 f e (omega arith) (go (form 23 (magnitude 23 8 l.reference)))
  where
    go : Form 23 (magnitude 23 8 l.reference) → Few (n l 0 f e (omega arith))
    go s = whole l 0 f e (omega arith) s.sig 0 (spacing_exp 23 (magnitude 23 8 l.reference)) (size_form 23 (magnitude 23 8 l.reference) s) (omega arith) (omega (arith, s.below))

-- ---- from a single, by way of what was packed

pub half_kept : (l : Layer) (c v : ℕ) → finite 23 8 l.reference ≡ true → l.exponent ≤ 277 → CodeOf l c → finite 23 8 v ≡ true
    → 2 * distance (position 23 8 v) (code_meaning 23 8 l c) ≤ 2 ^ l.exponent → 2 * apart v (double l c) ≤ 2 ^ l.exponent * 2 ^ 925
unfolding code_meaning distance
half_kept l zero v f e h g d = half_exact l 0 f e (code_small l 0 h) v d (reference_exact l f e)
half_kept l (suc k) v f e h g d = go (dec_lt (position 23 8 l.reference) (position 23 8 v)) (dec_le (l.exponent + l.width) (s + 53))
  where
    few : suc k < 65535
    few = code_small l (suc k) h

    s : ℕ
    s = spacing_exp 23 (magnitude 23 8 l.reference)

    go : Dec (position 23 8 l.reference < position 23 8 v) → Dec (l.exponent + l.width ≤ s + 53) → 2 * apart v (double l (suc k)) ≤ 2 ^ l.exponent * 2 ^ 925
    go (yes o) (yes a) =
        half_exact l (suc k) f e few v d
        (by_bits l (suc k) f e few (step_bits l (suc k) f e few h a (omega (arith, packed_held l (suc k) v f g h.1 o d))))
    go (yes o) (no a) = half_tiny l (suc k) f e few v d (omega arith) (omega arith)
    -- a step lies between R and the meaning
    go (no o) a = absurd (omega (arith, mul-le-mul_right {m = 1} {n = suc k} (2 ^ l.exponent) (omega arith), pow_pos l.exponent))

module _ (mark : ℕ) (xs : List Method) (w v : ℕ) (l : Layer) (c : ℕ) (f : finite 23 8 l.reference ≡ true) (e : l.exponent ≤ 277) (h : CodeOf l c)
    (o : trimmable 23 8 mark w ≡ true) (kept : Kept 23 8 mark xs w v) (d : 2 * distance (position 23 8 v) (code_meaning 23 8 l c) ≤ 2 ^ l.exponent) where
  pub sent_by : (t : ℕ) → 2 * distance (position 23 8 w) (position 23 8 v) + 2 ^ l.exponent < t → 2 * apart w (double l c) < t * 2 ^ 925
  sent_by t k =
      through_step (position 23 8 w) (position 23 8 v) (position 52 11 (double l c) + origin 23 8 * 2 ^ 925) (origin 52 11) (2 ^ 925) (2 ^ l.exponent) t (pow_pos 925) k
      (half_kept l c v f e h (kept.finite_stays o) d)

  largest_left : largest_unit 23 xs (magnitude 23 8 v) ≤ largest_unit 23 xs (magnitude_of 23 8 (distance (code_meaning 23 8 l c) (origin 23 8) + 2 ^ l.exponent / 2))
  largest_left =
      largest_mono 23 xs (magnitude 23 8 v) (magnitude_of 23 8 (distance (code_meaning 23 8 l c) (origin 23 8) + 2 ^ l.exponent / 2))
      (magnitude_bound v (code_meaning 23 8 l c) (2 ^ l.exponent) (finite_below 23 8 v (kept.finite_stays o)) d)

-- ---- what packing made

module _ (mark width : ℕ) (ws : List ℕ) (least : 2 ≤ width) (most : width ≤ 16) (fin : AllFinite mark ws) (i : ℕ) (h : i < length ws) (p : get_or ws i 0 ≢ mark) where
  abbrev L : Layer
  L = layer mark width ws

  abbrev W : ℕ
  W = get_or ws i 0

  abbrev C : ℕ
  C = code 23 8 mark (layer mark width ws) (get_or ws i 0)

  packable : Packable 23 8 mark ws
  packable j k o = finite_below 23 8 (get_or ws j 0) (fin j k o)

  held : holds width (span 23 8 (summary 23 8 mark ws)) 277 ≡ true
  held = singles_held mark width ws least packable

  R_finite : finite 23 8 L.reference ≡ true
  R_finite = reference_finite 277 mark width ws packable

  few_steps : L.exponent ≤ 277
  few_steps = layer_least 23 8 277 mark width ws held 277 held

  coded : CodeOf L C
  unfolding layer_of
  coded = (most, omega (arith, (layer_codes 23 8 277 mark width ws held i h).other_code p, codes_apart width (omega arith)))

  half_made : 2 * apart W (double L C) ≤ 2 ^ L.exponent * 2 ^ 925
  half_made = half_kept L C W R_finite few_steps coded (fin i h p) ((layer_codes 23 8 277 mark width ws held i h).half_step p)

  made : (magnitude 23 8 L.reference ≡ 0) ⊎ (L.exponent + width ≤ spacing_exp 23 (magnitude 23 8 L.reference) + 53) → size 52 (magnitude 52 11 (double L C)) ≡ meaning_size L C
  unfolding layer_of
  made z = go (dec_lt (position 23 8 L.reference) (position 23 8 W)) z
    where
      few : C < 65535
      few = code_small L C coded

      none : position 23 8 W ≤ position 23 8 L.reference → C ≡ 0
      none k =
          let d : position 23 8 W - position 23 8 L.reference ≡ 0 * 2 ^ L.exponent = omega arith in
          code_present 23 8 mark L W p ∙ rw d (nearest_multiple 0 (2 ^ L.exponent) (pow_pos L.exponent))

      go : Dec (position 23 8 L.reference < position 23 8 W) → (magnitude 23 8 L.reference ≡ 0) ⊎ (L.exponent + width ≤ spacing_exp 23 (magnitude 23 8 L.reference) + 53)
          → size 52 (magnitude 52 11 (double L C)) ≡ meaning_size L C
      go (no o) y = rw (none (omega arith)) (reference_exact L R_finite few_steps)
      go (yes o) (inl y) = by_bits L C R_finite few_steps few (zero_bits L C R_finite few_steps few y)
      go (yes o) (inr y) =
          by_bits L C R_finite few_steps few
          (step_bits L C R_finite few_steps few coded y (omega (arith, packed_held L C W R_finite (fin i h p) coded.1 o ((layer_codes 23 8 277 mark width ws held i h).half_step p))))

pub is_unpacked : (mark : ℕ) (l : Layer) (c : ℕ) → c < missing_code l.width → unpacked_code mark l c ≡ double l c
unfolding unpacked_code
is_unpacked mark l c h = rw (ne_eqb c (missing_code l.width) (λ e. absurd (omega arith))) refl

-- a code that is not the missing one is of a reading that was present
present_code : (mark : ℕ) (xs : List Method) (w : ℕ) (l : Layer) (c : ℕ) → c < missing_code l.width → Coded mark xs w l c → w ≢ mark
present_code mark xs w l c h k e = absurd (omega (arith, k.is_missing_code.1 e))

pub unpacked : Unpacked
unpacked =
    record {
      is_unpacked = is_unpacked;
      same_sign = λ l c f e h. double_sign l c f e (code_small l c h);
      half_spacing = λ l c f e h. within l c f e (code_small l c h);
      reference_exact = reference_exact;
      exact = λ l c f e h z. by_bits l c f e (code_small l c h) (held_bits l c f e (code_small l c h) h z);
      packed_held = packed_held;
      packed_exact = λ mark width ws least most fin z i h p. made mark width ws least most fin i h p z;
      half_kept = half_kept;
      packed_half = half_made;
      sent_kept = λ mark xs w v l c f e h o k d. sent_by mark xs w v l c f e h o k d _ (omega (arith, k.near o));
      sent_kept_left = λ mark xs w v l c f e h o k d.
          sent_by mark xs w v l c f e h o k d _ (omega (arith, k.near_left o, largest_left mark xs w v l c f e h o k d));
      sent_near = λ mark xs w l c f e h k.
          sent l c f e (code_small l c h) w (2 * largest_unit 23 xs (magnitude 23 8 w) + 2 ^ l.exponent) _ (k.near (present_code mark xs w l c h.1 k)) (omega arith);
      sent_near_left = λ mark xs w l c f e h k.
          sent l c f e (code_small l c h) w (2 * largest_unit 23 xs (magnitude_of 23 8 (distance (code_meaning 23 8 l c) (origin 23 8) + 2 ^ l.exponent / 2)) + 2 ^ l.exponent) _
          (k.near_left (present_code mark xs w l c h.1 k)) (omega arith);
    }
