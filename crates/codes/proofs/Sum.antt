-- A difference of two signed sizes from their cut words.
use Rattle.std.proofs.Common.{◌≡◌, ℕ, zero, suc, ◌+◌, ◌-◌, ◌*◌, ◌/◌, ◌%◌, ◌^◌, ◌<◌, ◌≤◌, cond, eqb, ◌≢◌, ◌⊎◌, sym, refl, ap, ◌∙◌, inl, inr, mul-le-mul_right, mod-lt, mod-eq_of_lt, add-mul, mul-le-mul_left, pow-suc, div-add-mod', sub-one, arith, lit<, pow_pos, pow_mono, eq-eqb, ne_eqb}
use native.Mathlib.Nat.{div-eq_of_lt-le, div-eq_of_lt, add-mod, add-mod_right, mul-add-mod_self_right, mod-add-mod}
use native.Mathlib.Decide.{dec_lt, ℕ_discrete}
use lib.Arith.{digits_div, digits_mod}
use Rattle.meaning.specs.Methods.{nearest}
use Rattle.meaning.proofs.Nearest.{nearest_down, nearest_up, nearest_add, nearest_scale}
use Rattle.codes.specs.Cut.{flag_of, lost_of, word_of, bump, round_word}

-- ---- rounding from whole units and a sign that something was lost

-- n over 2 * H units of g: with something lost, a remainder of H units is already more than half
pub nearest_lost : (n g H : ℕ) → 0 < g → 0 < H → 0 < n % g → nearest n (2 * H * g) ≡ (n / g + H) / (2 * H)
nearest_lost n g H p q l = go (dec_lt r H)
  where
    N : ℕ
    N = n / g

    f : ℕ
    f = n % g

    a : ℕ
    a = N / (2 * H)

    r : ℕ
    r = N % (2 * H)

    whole : a * (2 * H) + r ≡ N
    whole = div-add-mod' N (2 * H)

    less : r < 2 * H
    less = mod-lt N (omega arith)

    fless : f < g
    fless = mod-lt n p

    split : n ≡ a * (2 * H * g) + (r * g + f)
    split = sym (div-add-mod' n g) ∙ ap (λ (x : ℕ). x * g + f) (sym whole) ∙ omega arith

    rest : r * g + f < 2 * H * g
    rest = omega (arith, fless, mul-le-mul_right {m = r + 1} {n = 2 * H} g (omega (arith, less)))

    quot : n / (2 * H * g) ≡ a
    quot = ap (λ (x : ℕ). x / (2 * H * g)) split ∙ digits_div a rest

    rem : n % (2 * H * g) ≡ r * g + f
    rem = ap (λ (x : ℕ). x % (2 * H * g)) split ∙ digits_mod a rest

    go : Dec (r < H) → nearest n (2 * H * g) ≡ (N + H) / (2 * H)
    go (yes h) =
        nearest_down n (2 * H * g) (rw rem (omega (arith, fless, mul-le-mul_right {m = r + 1} {n = H} g (omega arith))))
        ∙ quot ∙ sym (div-eq_of_lt-le {k = a} (2 * H) (omega (arith, whole)) (omega (arith, whole)))
    go (no h) =
        nearest_up n (2 * H * g) (rw rem (omega (arith, l, mul-le-mul_right {m = H} {n = r} g (omega arith))))
        ∙ ap (λ (x : ℕ). x + 1) quot ∙ sym (div-eq_of_lt-le {k = a + 1} (2 * H) (omega (arith, whole)) (omega (arith, whole, less)))

pub nearest_kept : (n g H : ℕ) → 0 < g → 0 < H → n % g ≡ 0 → nearest n (2 * H * g) ≡ (n / g + (H - 1) + n / g / (2 * H) % 2) / (2 * H)
nearest_kept n g H p q l =
    ap (λ (x : ℕ). nearest x (2 * H * g)) e ∙ nearest_scale (n / g) (2 * H) g (omega arith) p ∙ nearest_add (n / g) H q
  where
    e : n ≡ n / g * g
    e = omega (arith, div-add-mod' n g)

-- ---- words of signed sizes

-- a signed size, counted from C * 2 ^ 64 units below zero
unfoldable pub lift : ℕ → ℕ → ℕ → ℕ → ℕ
lift C sign t g = cond (eqb sign 0) (C * 2 ^ 64 * g + t) (C * 2 ^ 64 * g - t)

pub record Lifted (C sign t g : ℕ) : Type 0 where
  pub units : ℕ
  pub rest : ℕ
  pub is : lift C sign t g ≡ units * g + rest
  pub less : rest < g
  pub word : word_of sign t g ≡ units % 2 ^ 64
  pub kept : lost_of t g ≡ 0 → rest ≡ 0
  pub lost : lost_of t g ≡ 1 → 0 < rest

-- nothing lost, or something: the two values of `lost_of`
pub lost_none : (t g : ℕ) → t % g ≡ 0 → lost_of t g ≡ 0
unfolding lost_of flag_of
lost_none t g h = rw (eq-eqb (t % g) 0 h) refl

pub lost_some : (t g : ℕ) → 0 < t % g → lost_of t g ≡ 1
unfolding lost_of flag_of
lost_some t g h = rw (ne_eqb (t % g) 0 (omega arith)) refl

pub word_pos : (sign t g : ℕ) → sign ≡ 0 → word_of sign t g ≡ t / g % 2 ^ 64
unfolding word_of
word_pos sign t g h = rw (eq-eqb sign 0 h) refl

pub word_neg : (sign t g : ℕ) → sign ≢ 0 → word_of sign t g ≡ (2 * 2 ^ 64 - t / g % 2 ^ 64 - lost_of t g) % 2 ^ 64
unfolding word_of
word_neg sign t g h = rw (ne_eqb sign 0 h) refl

pub lift_pos : (C sign t g : ℕ) → sign ≡ 0 → lift C sign t g ≡ C * 2 ^ 64 * g + t
unfolding lift
lift_pos C sign t g h = rw (eq-eqb sign 0 h) refl

pub lift_neg : (C sign t g : ℕ) → sign ≢ 0 → lift C sign t g ≡ C * 2 ^ 64 * g - t
unfolding lift
lift_neg C sign t g h = rw (ne_eqb sign 0 h) refl

-- a multiple of the word's range M, less q and less l
mod_less : (M C q l : ℕ) → 0 < M → l ≤ 1 → q < C → (C * M - (q + l)) % M ≡ (2 * M - q % M - l) % M
mod_less M C q l p a b =
    ap (λ (x : ℕ). x % M) e ∙ mul-add-mod_self_right (C - q / M - 1) M (M - q % M - l) ∙ sym (add-mod_right (M - q % M - l) M) ∙ ap (λ (x : ℕ). x % M) d
  where
    whole : q / M * M + q % M ≡ q
    whole = div-add-mod' q M

    less : q % M < M
    less = mod-lt q p

    under : q / M < C
    under = omega (arith, whole, mul-le-mul_left {m = 1} {n = M} (q / M) p)

    split : (C - q / M - 1) * M + (q / M + 1) * M ≡ C * M
    split = let z : C - q / M - 1 + (q / M + 1) ≡ C = omega (arith, under) in sym (add-mul (C - q / M - 1) (q / M + 1) M) ∙ ap (λ (x : ℕ). x * M) z

    e : C * M - (q + l) ≡ (C - q / M - 1) * M + (M - q % M - l)
    e = omega (arith, whole, less, split)

    d : M - q % M - l + M ≡ 2 * M - q % M - l
    d = omega (arith, less)

pub lifted : (C sign t g : ℕ) → 0 < g → t < C → Lifted C sign t g
lifted C sign t g p h = go (ℕ_discrete sign 0) (ℕ_discrete (t % g) 0)
  where
    q : ℕ
    q = t / g

    f : ℕ
    f = t % g

    whole : q * g + f ≡ t
    whole = div-add-mod' t g

    fless : f < g
    fless = mod-lt t p

    qless : q < C
    qless = omega (arith, whole, mul-le-mul_left {m = 1} {n = g} q p)

    over : (q + 1) * g ≤ C * 2 ^ 64 * g
    over = mul-le-mul_right {m = q + 1} {n = C * 2 ^ 64} g (omega (arith, qless))

    mul_sub : (x y : ℕ) → y ≤ x → (x - y) * g + y * g ≡ x * g
    mul_sub x y k = let e : x - y + y ≡ x = omega arith in sym (omega arith) ∙ ap (λ (z : ℕ). z * g) e

    go : Dec (sign ≡ 0) → Dec (f ≡ 0) → Lifted C sign t g
    go (yes s) z =
        record {
          units = C * 2 ^ 64 + q;
          rest = f;
          is = lift_pos C sign t g s ∙ omega (arith, whole);
          less = fless;
          word = word_pos sign t g s ∙ omega arith;
          kept = λ k. kept_f z k;
          lost = λ k. lost_f z k;
        }
      where
        kept_f : Dec (f ≡ 0) → lost_of t g ≡ 0 → f ≡ 0
        kept_f (yes e) k = e
        kept_f (no e) k = absurd (omega (arith, lost_some t g (omega arith)))

        lost_f : Dec (f ≡ 0) → lost_of t g ≡ 1 → 0 < f
        lost_f (yes e) k = absurd (omega (arith, lost_none t g e))
        lost_f (no e) k = omega arith
    go (no s) (yes z) =
        record {
          units = C * 2 ^ 64 - q;
          rest = 0;
          is = lift_neg C sign t g s ∙ omega (arith, whole, z, mul_sub (C * 2 ^ 64) q (omega (arith, qless)));
          less = p;
          word = word_neg sign t g s ∙ rw (lost_none t g z) (omega (arith, mod_less (2 ^ 64) C q 0 (lit< tt) (omega arith) qless));
          kept = λ k. refl;
          lost = λ k. absurd (omega (arith, lost_none t g z));
        }
    go (no s) (no z) =
        record {
          units = C * 2 ^ 64 - (q + 1);
          rest = g - f;
          is = lift_neg C sign t g s ∙ omega (arith, whole, fless, mul_sub (C * 2 ^ 64) (q + 1) (omega (arith, qless)));
          less = omega arith;
          word = word_neg sign t g s ∙ rw (lost_some t g (omega arith)) (sym (mod_less (2 ^ 64) C q 1 (lit< tt) (omega arith) qless));
          kept = λ k. absurd (omega (arith, lost_some t g (omega arith)));
          lost = λ k. omega (arith, fless);
        }

-- ---- the sum of two signed sizes

-- two numbers of units and rests that add up to K units and n: the rests carry or not
pub sum_units : (g u1 r1 u2 r2 K n : ℕ) → 0 < g → r1 < g → r2 < g → u1 * g + r1 + (u2 * g + r2) ≡ K * g + n
    → ((r1 + r2 < g) × (u1 + u2 ≡ K + n / g) × (n % g ≡ r1 + r2)) ⊎ ((g ≤ r1 + r2) × (u1 + u2 + 1 ≡ K + n / g))
sum_units g u1 r1 u2 r2 K n p a b e = go (dec_lt (r1 + r2) g)
  where
    whole : n / g * g + n % g ≡ n
    whole = div-add-mod' n g

    less : n % g < g
    less = mod-lt n p

    right : (K + n / g) * g + n % g ≡ u1 * g + r1 + (u2 * g + r2)
    right = omega (arith, whole, e)

    go : Dec (r1 + r2 < g) → ((r1 + r2 < g) × (u1 + u2 ≡ K + n / g) × (n % g ≡ r1 + r2)) ⊎ ((g ≤ r1 + r2) × (u1 + u2 + 1 ≡ K + n / g))
    go (yes h) =
        let z : (u1 + u2) * g + (r1 + r2) ≡ (K + n / g) * g + n % g = omega (arith, right) in
        inl (h, sym (digits_div (u1 + u2) h) ∙ ap (λ (x : ℕ). x / g) z ∙ digits_div (K + n / g) less, sym (digits_mod (K + n / g) less) ∙ ap (λ (x : ℕ). x % g) (sym z) ∙ digits_mod (u1 + u2) h)
    go (no h) =
        let z : (u1 + u2 + 1) * g + (r1 + r2 - g) ≡ (K + n / g) * g + n % g = omega (arith, right) in
        let l : r1 + r2 - g < g = omega arith in
        inr (omega arith, sym (digits_div (u1 + u2 + 1) l) ∙ ap (λ (x : ℕ). x / g) z ∙ digits_div (K + n / g) less)

-- the sum of the words is the number of units, or one less where the rests carry
words_sum : (M c u1 u2 q : ℕ) → u1 + u2 ≡ c * M + q → (u1 % M + u2 % M) % M ≡ q % M
words_sum M c u1 u2 q e = sym (add-mod u1 u2 M) ∙ ap (λ (x : ℕ). x % M) e ∙ mul-add-mod_self_right c M q

words_carry : (M c u1 u2 q z : ℕ) → u1 + u2 + 1 ≡ c * M + q → ((u1 % M + u2 % M) % M + (z + 1)) % M ≡ (q + z) % M
words_carry M c u1 u2 q z e =
    mod-add-mod (u1 % M + u2 % M) M (z + 1) ∙ add-mod (u1 % M + u2 % M) (z + 1) M ∙ ap (λ (x : ℕ). (x + (z + 1) % M) % M) (sym (add-mod u1 u2 M)) ∙ sym (add-mod (u1 + u2) (z + 1) M)
    ∙ ap (λ (x : ℕ). x % M) {x = u1 + u2 + (z + 1)} {y = c * M + (q + z)} (omega (arith, e)) ∙ mul-add-mod_self_right c M (q + z)

pub lost_cases : (t g : ℕ) → (lost_of t g ≡ 0) ⊎ (lost_of t g ≡ 1)
lost_cases t g = go (ℕ_discrete (t % g) 0)
  where
    go : Dec (t % g ≡ 0) → (lost_of t g ≡ 0) ⊎ (lost_of t g ≡ 1)
    go (yes h) = inl (lost_none t g h)
    go (no h) = inr (lost_some t g (omega arith))

-- ---- rounding a word

pub double : (k : ℕ) → 1 ≤ k → 2 ^ k ≡ 2 * 2 ^ (k - 1)
double zero h = absurd (omega arith)
double (suc k) h = rw (sub-one, pow-suc 2 k) (omega arith)

round_none : (d k l : ℕ) → l ≡ 0 → round_word d k l ≡ (d + (2 ^ (k - 1) - 1 + d / 2 ^ k % 2)) % 2 ^ 64 / 2 ^ k
unfolding round_word bump
round_none d k l h = rw (eq-eqb l 0 h) refl

round_some : (d k l : ℕ) → l ≢ 0 → round_word d k l ≡ (d + (2 ^ (k - 1) - 1 + 1)) % 2 ^ 64 / 2 ^ k
unfolding round_word bump
round_some d k l h = rw (ne_eqb l 0 h) refl

nearest_zero : (n g : ℕ) → 2 * n < g → nearest n g ≡ 0
nearest_zero n g h =
    let e : n % g ≡ n = mod-eq_of_lt (omega arith) in
    nearest_down n g (rw e h) ∙ div-eq_of_lt (omega arith)

-- a word that is the number of units
word_whole : (n g k l : ℕ) → 0 < g → 1 ≤ k → k ≤ 40 → n / g < 2 ^ 60 → (l ≡ 0 → n % g ≡ 0) → (l ≢ 0 → 0 < n % g) → round_word (n / g) k l ≡ nearest n (2 ^ k * g)
word_whole n g k l p a b small none some = go (ℕ_discrete l 0)
  where
    H : ℕ
    H = 2 ^ (k - 1)

    hp : 0 < H
    hp = pow_pos (k - 1)

    hs : H ≤ 2 ^ 39
    hs = pow_mono {i = k - 1} {j = 39} (omega arith)

    bit : n / g / (2 * H) % 2 < 2
    bit = mod-lt (n / g / (2 * H)) (lit< tt)

    go : Dec (l ≡ 0) → round_word (n / g) k l ≡ nearest n (2 ^ k * g)
    go (yes z) =
        round_none (n / g) k l z
        ∙ rw (double k a) (ap (λ (x : ℕ). x / (2 * H)) (mod-eq_of_lt (omega (arith, small, hs, bit)) ∙ omega (arith, hp)) ∙ sym (nearest_kept n g H p hp (none z)))
    go (no z) =
        round_some (n / g) k l z
        ∙ rw (double k a) (ap (λ (x : ℕ). x / (2 * H)) (mod-eq_of_lt (omega (arith, small, hs)) ∙ omega (arith, hp)) ∙ sym (nearest_lost n g H p hp (some z)))

-- The rounded word of two cut sizes is the nearest whole number of steps in their sum n. Where both lost something n is less than half a step.
pub code_cut : (C n g k s1 t1 s2 t2 : ℕ) → 0 < g → 1 ≤ k → k ≤ 40 → t1 < C → t2 < C → lift C s1 t1 g + lift C s2 t2 g ≡ 2 * C * 2 ^ 64 * g + n
    → n / g < 2 ^ 60 → (lost_of t1 g ≡ 1 → lost_of t2 g ≡ 1 → n / g < 2 ^ (k - 1))
    → round_word ((word_of s1 t1 g + word_of s2 t2 g) % 2 ^ 64) k (lost_of t1 g + lost_of t2 g) ≡ nearest n (2 ^ k * g)
code_cut C n g k s1 t1 s2 t2 p kl kh c1 c2 e small both =
    rw (A.word, B.word) (go (sum_units g A.units A.rest B.units B.rest (2 * C * 2 ^ 64) n p A.less B.less added) (lost_cases t1 g) (lost_cases t2 g))
  where
    A : Lifted C s1 t1 g
    A = lifted C s1 t1 g p c1

    B : Lifted C s2 t2 g
    B = lifted C s2 t2 g p c2

    added : A.units * g + A.rest + (B.units * g + B.rest) ≡ 2 * C * 2 ^ 64 * g + n
    added = ap (λ (x : ℕ). x + (B.units * g + B.rest)) (sym A.is) ∙ ap (λ (x : ℕ). lift C s1 t1 g + x) (sym B.is) ∙ e

    H : ℕ
    H = 2 ^ (k - 1)

    hp : 0 < H
    hp = pow_pos (k - 1)

    hs : H ≤ 2 ^ 39
    hs = pow_mono {i = k - 1} {j = 39} (omega arith)

    D : ℕ
    D = (A.units % 2 ^ 64 + B.units % 2 ^ 64) % 2 ^ 64

    L : ℕ
    L = lost_of t1 g + lost_of t2 g

    none : n % g ≡ A.rest + B.rest → L ≡ 0 → n % g ≡ 0
    none m z = omega (arith, m, A.kept (omega arith), B.kept (omega arith))

    some : n % g ≡ A.rest + B.rest → (lost_of t1 g ≡ 0) ⊎ (lost_of t1 g ≡ 1) → (lost_of t2 g ≡ 0) ⊎ (lost_of t2 g ≡ 1) → L ≢ 0 → 0 < n % g
    some m (inr x) y z = omega (arith, m, A.lost x)
    some m (inl x) (inr y) z = omega (arith, m, B.lost y)
    some m (inl x) (inl y) z = absurd (z (omega arith))

    carried : n / g < H → round_word D k L ≡ 0 → round_word D k L ≡ nearest n (2 ^ k * g)
    carried h z = z ∙ sym (nearest_zero n (2 ^ k * g) (rw (double k kl) (omega (arith, div-add-mod' n g, mod-lt n p, mul-le-mul_right {m = n / g + 1} {n = H} g (omega arith)))))

    go : ((A.rest + B.rest < g) × (A.units + B.units ≡ 2 * C * 2 ^ 64 + n / g) × (n % g ≡ A.rest + B.rest)) ⊎ ((g ≤ A.rest + B.rest) × (A.units + B.units + 1 ≡ 2 * C * 2 ^ 64 + n / g))
        → (lost_of t1 g ≡ 0) ⊎ (lost_of t1 g ≡ 1) → (lost_of t2 g ≡ 0) ⊎ (lost_of t2 g ≡ 1) → round_word D k L ≡ nearest n (2 ^ k * g)
    go (inl (h, u, m)) x y =
        let d : D ≡ n / g = words_sum (2 ^ 64) (2 * C) A.units B.units (n / g) u ∙ mod-eq_of_lt (omega (arith, small)) in
        ap (λ (z : ℕ). round_word z k L) d ∙ word_whole n g k L p kl kh small (none m) (some m x y)
    go (inr (h, u)) (inl x) y = absurd (omega (arith, A.kept x, B.less))
    go (inr (h, u)) (inr x) (inl y) = absurd (omega (arith, B.kept y, A.less))
    go (inr (h, u)) (inr x) (inr y) =
        let s : n / g < H = both x y in
        carried s
        (round_some D k L (omega arith)
        ∙ ap (λ (z : ℕ). z / 2 ^ k) (words_carry (2 ^ 64) (2 * C) A.units B.units (n / g) (H - 1) u ∙ mod-eq_of_lt (omega (arith, hs)))
        ∙ div-eq_of_lt (rw (double k kl) (omega (arith, hp))))

-- The sum of the words where at most one lost something: the whole units of n, and whether there is a rest.
pub sum_word : (C n g s1 t1 s2 t2 : ℕ) → 0 < g → t1 < C → t2 < C → lift C s1 t1 g + lift C s2 t2 g ≡ 2 * C * 2 ^ 64 * g + n → n / g < 2 ^ 60
    → (lost_of t1 g + lost_of t2 g ≢ 2)
    → ((word_of s1 t1 g + word_of s2 t2 g) % 2 ^ 64 ≡ n / g) × (lost_of t1 g + lost_of t2 g ≡ 0 → n % g ≡ 0) × (lost_of t1 g + lost_of t2 g ≢ 0 → 0 < n % g)
sum_word C n g s1 t1 s2 t2 p c1 c2 e small one =
    rw (A.word, B.word) (go (sum_units g A.units A.rest B.units B.rest (2 * C * 2 ^ 64) n p A.less B.less added) (lost_cases t1 g) (lost_cases t2 g))
  where
    A : Lifted C s1 t1 g
    A = lifted C s1 t1 g p c1

    B : Lifted C s2 t2 g
    B = lifted C s2 t2 g p c2

    added : A.units * g + A.rest + (B.units * g + B.rest) ≡ 2 * C * 2 ^ 64 * g + n
    added = ap (λ (x : ℕ). x + (B.units * g + B.rest)) (sym A.is) ∙ ap (λ (x : ℕ). lift C s1 t1 g + x) (sym B.is) ∙ e

    D : ℕ
    D = (A.units % 2 ^ 64 + B.units % 2 ^ 64) % 2 ^ 64

    L : ℕ
    L = lost_of t1 g + lost_of t2 g

    none : n % g ≡ A.rest + B.rest → L ≡ 0 → n % g ≡ 0
    none m z = omega (arith, m, A.kept (omega arith), B.kept (omega arith))

    some : n % g ≡ A.rest + B.rest → (lost_of t1 g ≡ 0) ⊎ (lost_of t1 g ≡ 1) → (lost_of t2 g ≡ 0) ⊎ (lost_of t2 g ≡ 1) → L ≢ 0 → 0 < n % g
    some m (inr x) y z = omega (arith, m, A.lost x)
    some m (inl x) (inr y) z = omega (arith, m, B.lost y)
    some m (inl x) (inl y) z = absurd (z (omega arith))

    go : ((A.rest + B.rest < g) × (A.units + B.units ≡ 2 * C * 2 ^ 64 + n / g) × (n % g ≡ A.rest + B.rest)) ⊎ ((g ≤ A.rest + B.rest) × (A.units + B.units + 1 ≡ 2 * C * 2 ^ 64 + n / g))
        → (lost_of t1 g ≡ 0) ⊎ (lost_of t1 g ≡ 1) → (lost_of t2 g ≡ 0) ⊎ (lost_of t2 g ≡ 1) → (D ≡ n / g) × (L ≡ 0 → n % g ≡ 0) × (L ≢ 0 → 0 < n % g)
    go (inl (h, u, m)) x y = (words_sum (2 ^ 64) (2 * C) A.units B.units (n / g) u ∙ mod-eq_of_lt (omega (arith, small)), none m, some m x y)
    go (inr (h, u)) (inl x) y = absurd (omega (arith, A.kept x, B.less))
    go (inr (h, u)) (inr x) (inl y) = absurd (omega (arith, B.kept y, A.less))
    go (inr (h, u)) (inr x) (inr y) = absurd (one (omega arith))
