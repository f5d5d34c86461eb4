-- k readings in the planes of n readings, from a place on. `a` is that place in the buffer: of the next byte of these readings it is n + a.
use mathlib.Core.List.{List, ◌++◌, map, zip_with}
use Rattle.std.specs.Prelude.{ℕ, zero, suc, ◌+◌, ◌*◌, ◌/◌, ◌%◌, ◌≤◌, take, drop, replicate}

-- the buffer ps, once the B lowest bytes of the readings ws, k of them, were written there
unfoldable pub stored : ℕ → ℕ → ℕ → ℕ → List ℕ → List ℕ → List ℕ
stored zero n a k ws ps = ps
stored (suc B) n a k ws ps = stored B n (n + a) k (map (λ w. w / 256) ws) (take a ps ++ (map (λ w. w % 256) ws ++ drop k (drop a ps)))

-- the k readings of B bytes that stand there
unfoldable pub fetched : ℕ → ℕ → ℕ → ℕ → List ℕ → List ℕ
fetched zero n a k ps = replicate k 0
fetched (suc B) n a k ps = zip_with (λ low above. low + 256 * above) (take k (drop a ps)) (fetched B n (n + a) k ps)

-- a buffer of m bytes has room for them: the last of the B planes begins at (B - 1) * n + a
abbrev pub Room : ℕ → ℕ → ℕ → ℕ → ℕ → Type 0
Room B n a k m = a + k + B * n ≤ n + m
