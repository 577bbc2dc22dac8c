-- An array made by calls that leave the closure as it was holds what they gave, each at its place.
use Rattle.std.proofs.Common.{ℕ, zero, suc, ◌+◌, ◌<◌, ◌≤◌, List, ◌≡◌, sym, subst, ⊎_elim, arith}
use Rattle.std.proofs.lemmas.Bool.{cases_eq}
use Rattle.std.specs.Prelude.{slice_index_or}
use Rattle.std.specs.Fn.{Called, Mut}
use Rattle.std.specs.Array.{IsFromFnResult, IsFromFnResultFrom}
use Rattle.vectors.specs.File.{Filled}

module _ {F B : Type 0} (g : Mut F (ℕ × Unit {0}) B) (f : F) (ys : List B) (Fits : ℕ → B → Type 0) (calls : (i : ℕ) (y : B) (q : F) → Called g f (i, tt) y q → Fits i y × (q ≡ f)) where
  made_from : (i n : ℕ) → IsFromFnResultFrom g f ys i n → (k : ℕ) (none : B) → i ≤ k → k < i + n → Fits k (slice_index_or ys k none)
  made_from i zero e k none l h = absurd (omega arith)
  made_from i (suc n) e k none l h =
      let c = calls i e.1 e.0 e.3 in
      ⊎_elim
      (λ q. subst (λ (j : ℕ). Fits j (slice_index_or ys j none)) (sym q) (subst (Fits i) (sym (e.2.1 none)) c.0))
      (λ ne. made_from (i + 1) n (subst (λ (p : F). IsFromFnResultFrom g p ys (i + 1) n) c.1 e.4) k none (omega arith) (omega arith))
      (cases_eq k i)

  pub made : {n : ℕ} → IsFromFnResult g f ys n → Filled Fits n ys
  made {n} m = record { long = m.long; each = λ k none l. made_from 0 n m.each k none (omega arith) (omega arith) }
