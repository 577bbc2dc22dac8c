-- The order of two numbers in halves.
use mathlib.Core.Path.{◌≡◌, sym, ap, ◌∙◌}
use mathlib.Core.Bool.{false}
use Prim.Native.Nat.{ℕ, ◌+◌, ◌*◌, ◌/◌, ◌≤◌, ◌<◌}
use native.Mathlib.Nat.{lt_of_lt_of_le, le-add_right, le_of_lt}
use native.Mathlib.Decide.{dec_lt, ℕ_discrete}
use native.Mathlib.Omega.{arith}
use lib.Dec.{eqb, ltb}
use lib.Arith.{digits_lt, lt_of_le-ne, digits_div}
use borrow.Author.Tests.{lt-ltb, le-ltb, eq-eqb, ne_eqb}

-- two tests that say the same
pub same_lt : (a b c d : ℕ) → (a < b → c < d) → (b ≤ a → d ≤ c) → ltb a b ≡ ltb c d
same_lt a b c d f g = elim (dec_lt a b) [ yes h ↦ lt-ltb a b h ∙ sym (lt-ltb c d (f h)) | no n ↦ le-ltb a b (lt_of_not_le' n) ∙ sym (le-ltb c d (g (lt_of_not_le' n))) ]
  where
    lt_of_not_le' : (a < b → ⊥) → b ≤ a
    lt_of_not_le' n = omega arith

module _ (M h l k m : ℕ) (p : l < M) (q : m < M) where
  pub above : h < k → h * M + l < k * M + m
  above t = lt_of_lt_of_le (digits_lt {q = h} {m = k} {r = l} {c = M} t p) (le-add_right (k * M) m)

pub less_low : (M h l k m : ℕ) → h ≡ k → ltb l m ≡ ltb (h * M + l) (k * M + m)
less_low M h l k m e =
    let f : h * M ≡ k * M = ap (λ (x : ℕ). x * M) e in
    same_lt l m (h * M + l) (k * M + m) (λ t. omega arith) (λ t. omega arith)

pub less_high : (M h l k m : ℕ) → l < M → m < M → (h ≡ k → ⊥) → ltb h k ≡ ltb (h * M + l) (k * M + m)
less_high M h l k m p q n =
    same_lt h k (h * M + l) (k * M + m) (above M h l k m p q)
    (λ t. le_of_lt (above M k m h l q p (lt_of_le-ne t (λ e. n (sym e)))))

pub same_low : (M h l k m : ℕ) → h ≡ k → eqb l m ≡ eqb (h * M + l) (k * M + m)
same_low M h l k m e =
    let f : h * M ≡ k * M = ap (λ (x : ℕ). x * M) e in
    elim (ℕ_discrete l m) [ yes t ↦ eq-eqb l m t ∙ sym (eq-eqb (h * M + l) (k * M + m) (omega arith)) | no t ↦ ne_eqb l m t ∙ sym (ne_eqb (h * M + l) (k * M + m) (λ u. t (omega arith))) ]

pub same_high : (M h l k m : ℕ) → l < M → m < M → (h ≡ k → ⊥) → false ≡ eqb (h * M + l) (k * M + m)
same_high M h l k m p q n =
    sym (ne_eqb (h * M + l) (k * M + m) (λ e. n (sym (digits_div h p) ∙ ap (λ (x : ℕ). x / M) e ∙ digits_div k q)))
