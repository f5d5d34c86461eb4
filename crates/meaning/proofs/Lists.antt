-- One reading through a list of accepted methods: what each method keeps, the list keeps. No lemma here knows the turn of a step.
use mathlib.Core.Path.{◌≡◌, refl, sym, ap, ◌∙◌, subst}
use mathlib.Core.Logic.{◌≢◌}
use mathlib.Core.List.{List, [], ◌∷◌}
use Prim.Native.Nat.{ℕ, suc, ◌+◌, ◌<◌}
use native.Mathlib.Omega.{arith}
use lib.ListN.{length, take, get_or}
use Rattle.meaning.specs.Readings.{magnitude, infinity}
use Rattle.meaning.specs.Methods.{Method, turn_after, turns_in, trimmed, trim_from}
use Rattle.meaning.specs.Questions.{Outcome, refused, accepted, trim_questions}
use Rattle.meaning.specs.Calls.{Call, leaving, trim, in_turn, accepted_calls}
use Rattle.meaning.proofs.Accepted.{Ready, accepted_ready}
use Rattle.meaning.proofs.OneReading.{trimmed_missing, trimmed_present, trimmed_other, Keeps, Good, trimmed_good}
use Rattle.meaning.proofs.Turns.{at_turn}

-- R holds of every method of the list
abbrev pub Every : (Method → Type 0) → List Method → Type 0
Every R [] = Unit {0}
Every R (x ∷ xs) = R x × Every R xs

pub every_map : {R S : Method → Type 0} (xs : List Method) → ((x : Method) → R x → S x) → Every R xs → Every S xs
every_map [] f h = tt
every_map (x ∷ xs) f h = (f x h.0, every_map xs f h.1)

module _ (F X : ℕ) where
  -- v comes from w by the methods of a list one after another, each at some turn
  abbrev pub Via : List Method → ℕ → ℕ → ℕ → Type 0
  Via [] mark w v = w ≡ v
  Via (x ∷ xs) mark w v = (turn : ℕ) × Via xs mark (trimmed F X x mark turn w) v

  pub via_good : (P : ℕ → Type 0) (xs : List Method) → Every Ready xs → Every (Keeps F X P) xs → (mark s w v : ℕ) → Via xs mark w v → Good F X P mark s w → Good F X P mark s v
  via_good P [] r h mark s w v e g = subst (λ (u : ℕ). Good F X P mark s u) e g
  via_good P (x ∷ xs) r h mark s w v e g =
      via_good P xs r.1 h.1 mark s (trimmed F X x mark e.0 w) v e.1 (trimmed_good F X P x r.0 h.0 mark e.0 s w g)

  pub via_missing : (xs : List Method) (mark w v : ℕ) → Via xs mark w v → w ≡ mark → v ≡ mark
  via_missing [] mark w v e p = sym e ∙ p
  via_missing (x ∷ xs) mark w v e p = via_missing xs mark (trimmed F X x mark e.0 w) v e.1 (rw p (trimmed_missing F X x mark e.0))

  pub via_present : (xs : List Method) (mark w v : ℕ) → Via xs mark w v → w ≢ mark → v ≢ mark
  via_present [] mark w v e h = λ p. h (e ∙ p)
  via_present (x ∷ xs) mark w v e h = via_present xs mark (trimmed F X x mark e.0 w) v e.1 (trimmed_present F X x mark e.0 w h)

  pub via_other : (xs : List Method) (mark w v : ℕ) → Via xs mark w v → ¬ (magnitude F X w < infinity F X) → v ≡ w
  via_other [] mark w v e h = sym e
  via_other (x ∷ xs) mark w v e h = via_other xs mark w v (rw (trimmed_other F X x mark e.0 w h) at e.1) h

  -- ---- a list of calls, at one place of the array

  length-trim_from : (x : Method) (mark turn : ℕ) (ws : List ℕ) → length (trim_from F X x mark turn ws) ≡ length ws
  unfolding trim_from
  length-trim_from x mark turn [] = refl
  length-trim_from x mark turn (w ∷ ws) = ap suc (length-trim_from x mark (turn_after F X mark w turn) ws)

  at_trim_from : (x : Method) (mark turn : ℕ) (ws : List ℕ) (i : ℕ) → i < length ws
      → (p : ℕ) × (trimmed F X x mark p (get_or ws i 0) ≡ get_or (trim_from F X x mark turn ws) i 0)
  at_trim_from x mark turn ws i h = (turn + turns_in F X mark (take i ws), sym (at_turn F X mark x turn ws i h))

  module _ (c : Call) (cs : List Call) (mark : ℕ) (ws : List ℕ) where
    -- a refused call changes nothing and doesn't count; an accepted one trims
    refused_leaves : (n : ℕ) → trim_questions F X c.method c.setting ≡ refused n → in_turn F X (c ∷ cs) mark ws ≡ in_turn F X cs mark ws
    unfolding in_turn trim leaving
    refused_leaves n e = rw e refl

    refused_counts : (n : ℕ) → trim_questions F X c.method c.setting ≡ refused n → accepted_calls F X (c ∷ cs) ≡ accepted_calls F X cs
    unfolding accepted_calls leaving
    refused_counts n e = rw e refl

    accepted_leaves : (x : Method) → trim_questions F X c.method c.setting ≡ accepted x → in_turn F X (c ∷ cs) mark ws ≡ in_turn F X cs mark (trim_from F X x mark 0 ws)
    unfolding in_turn trim leaving
    accepted_leaves x e = rw e refl

    accepted_counts : (x : Method) → trim_questions F X c.method c.setting ≡ accepted x → accepted_calls F X (c ∷ cs) ≡ x ∷ accepted_calls F X cs
    unfolding accepted_calls leaving
    accepted_counts x e = rw e refl

  pub length-in_turn : (cs : List Call) (mark : ℕ) (ws : List ℕ) → length (in_turn F X cs mark ws) ≡ length ws
  unfolding in_turn
  length-in_turn [] mark ws = refl
  length-in_turn (c ∷ cs) mark ws = go (trim_questions F X c.method c.setting) refl (length-in_turn cs mark)
    where
      go : (o : Outcome Method) → trim_questions F X c.method c.setting ≡ o → ((us : List ℕ) → length (in_turn F X cs mark us) ≡ length us)
          → length (in_turn F X (c ∷ cs) mark ws) ≡ length ws
      go (refused n) e ih = ap length (refused_leaves c cs mark ws n e) ∙ ih ws
      go (accepted x) e ih = ap length (accepted_leaves c cs mark ws x e) ∙ ih (trim_from F X x mark 0 ws) ∙ length-trim_from x mark 0 ws

  pub in_turn_via : (cs : List Call) (mark : ℕ) (ws : List ℕ) (i : ℕ) → i < length ws
      → Via (accepted_calls F X cs) mark (get_or ws i 0) (get_or (in_turn F X cs mark ws) i 0)
  unfolding in_turn accepted_calls
  in_turn_via [] mark ws i h = refl
  in_turn_via (c ∷ cs) mark ws i h = go (trim_questions F X c.method c.setting) refl (λ us. in_turn_via cs mark us i)
    where
      go : (o : Outcome Method) → trim_questions F X c.method c.setting ≡ o
          → ((us : List ℕ) → i < length us → Via (accepted_calls F X cs) mark (get_or us i 0) (get_or (in_turn F X cs mark us) i 0))
          → Via (accepted_calls F X (c ∷ cs)) mark (get_or ws i 0) (get_or (in_turn F X (c ∷ cs) mark ws) i 0)
      go (refused n) e ih = rw (refused_counts c cs mark ws n e, refused_leaves c cs mark ws n e) (ih ws h)
      go (accepted x) e ih =
          let a = at_trim_from x mark 0 ws i h in
          rw (accepted_counts c cs mark ws x e, accepted_leaves c cs mark ws x e)
          (a.0, rw a.1 (ih (trim_from F X x mark 0 ws) (rw (length-trim_from x mark 0 ws) h)))

  pub in_turn_none : (cs : List Call) (mark : ℕ) (ws : List ℕ) → accepted_calls F X cs ≡ [] → in_turn F X cs mark ws ≡ ws
  unfolding in_turn
  in_turn_none [] mark ws h = refl
  in_turn_none (c ∷ cs) mark ws h = go (trim_questions F X c.method c.setting) refl (in_turn_none cs mark ws)
    where
      go : (o : Outcome Method) → trim_questions F X c.method c.setting ≡ o → (accepted_calls F X cs ≡ [] → in_turn F X cs mark ws ≡ ws) → in_turn F X (c ∷ cs) mark ws ≡ ws
      go (refused n) e ih = refused_leaves c cs mark ws n e ∙ ih (sym (refused_counts c cs mark ws n e) ∙ h)
      go (accepted x) e ih =
          let y = sym (accepted_counts c cs mark ws x e) ∙ h in
          let z : ◌≡◌ {A = ℕ} 0 1 = cc in absurd (omega arith)

  pub calls_ready : (cs : List Call) → Every Ready (accepted_calls F X cs)
  unfolding accepted_calls
  calls_ready [] = tt
  calls_ready (c ∷ cs) = go (trim_questions F X c.method c.setting) refl (calls_ready cs)
    where
      go : (o : Outcome Method) → trim_questions F X c.method c.setting ≡ o → Every Ready (accepted_calls F X cs) → Every Ready (accepted_calls F X (c ∷ cs))
      go (refused n) e ih = rw (refused_counts c cs 0 [] n e) ih
      go (accepted x) e ih = rw (accepted_counts c cs 0 [] x e) (accepted_ready F X c.method c.setting x e, ih)
