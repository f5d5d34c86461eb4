-- A slice of codes, each of which is made of the reading at its place.
use Rattle.std.proofs.Common.{◌≡◌, ℕ, ◌<◌, List, map, length, get_or, sym, ◌∙◌}
use Rattle.std.proofs.lemmas.List.{ext_get_or, get_or-map, length-map}

pub each_is : (f : ℕ → ℕ) (ws cs : List ℕ) → length ws ≡ length cs → ((k : ℕ) → k < length ws → get_or cs k 0 ≡ f (get_or ws k 0)) → cs ≡ map f ws
each_is f ws cs l e =
    ext_get_or 0 cs (map f ws) (sym l ∙ sym (length-map ws f)) (λ k h. let i : k < length ws = rw l h in e k i ∙ sym (get_or-map f ws k 0 0 i))
