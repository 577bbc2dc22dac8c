-- How often each key stands in a list, as a table of 64 numbers.
use Rattle.std.specs.Prelude.{ℕ, zero, suc, ◌+◌, ◌-◌, min, ◌≤◌, ◌<◌, ◌≡◌, refl, Bool, true, false, List, [], ◌∷◌, ◌++◌, length, get_or, set, take, replicate, eqb}
use Rattle.std.proofs.Common.{sym, ap, subst, ◌∙◌, add-one, length-set, get_or-set_same, get_or-set_other}
use native.Mathlib.Omega.{arith}
use Rattle.std.proofs.lemmas.List.{get_or-replicate, take_more}
use borrow.Author.Tests.{eq-eqb, ne_eqb, eqb-true, eqb-false, lt-ltb, le-ltb}
use Rattle.costs.specs.Cost.{capped}
use Rattle.costs.specs.Choice.{◌if◌otherwise◌}
use Rattle.costs.specs.Table.{count_of}
use Rattle.costs.specs.declared.Step.TheVariants.{Pop, PushImm}
use Rattle.heuristic.specs.Heuristic.{times, gas_of, term, sum_to}

-- the table has the count of each key in the list
pub record Counted (table xs : List ℕ) : Type 0 where
  pub size : length table ≡ 64
  pub at : (k : ℕ) → k < 64 → get_or table k 0 ≡ count_of k xs

pub count_none : Counted (replicate 64 0) []
count_none = record { size = refl; at = λ k l. get_or-replicate 64 k 0 0 l }

pub count_of_same : (k : ℕ) (xs : List ℕ) → count_of k (k ∷ xs) ≡ count_of k xs + 1
count_of_same k xs = rw (eq-eqb k k refl, add-one (count_of k xs))

pub count_of_other : (k x : ℕ) (xs : List ℕ) → (x ≡ k → ⊥) → count_of k (x ∷ xs) ≡ count_of k xs
count_of_other k x xs n = rw (ne_eqb x k n)

-- one key more
pub count_more : (table xs : List ℕ) (x : ℕ) → x < 64 → Counted table xs → Counted (set table x (get_or table x 0 + 1)) (x ∷ xs)
count_more table xs x l c =
    record {
      size = length-set table x _ ∙ c.size;
      at = λ k m. go k m (eqb k x) refl;
    }
  where
    go : (k : ℕ) → k < 64 → (b : Bool) → eqb k x ≡ b → get_or (set table x (get_or table x 0 + 1)) k 0 ≡ count_of k (x ∷ xs)
    go k m true e =
        let q : k ≡ x = eqb-true k x e in
        let h : x < length table = omega (arith, c.size) in
        let s : get_or (set table x (get_or table x 0 + 1)) x 0 ≡ count_of x (x ∷ xs) =
        get_or-set_same table x (get_or table x 0 + 1) 0 h ∙ ap (λ n. n + 1) (c.at x l) ∙ sym (count_of_same x xs) in
        subst (λ j. get_or (set table x (get_or table x 0 + 1)) j 0 ≡ count_of j (x ∷ xs)) (sym q) s
    go k m false e =
        let q : k ≡ x → ⊥ = eqb-false k x e in
        rw (get_or-set_other table x k (get_or table x 0 + 1) 0 q, c.at k m) (sym (count_of_other k x xs (λ p. q (sym p))))

-- a count is at most the length
pub count_below : (k : ℕ) (xs : List ℕ) → count_of k xs ≤ length xs
count_below k [] = omega arith
count_below k (x ∷ xs) = go (eqb x k) (count_below k xs)
  where
    go : (b : Bool) → count_of k xs ≤ length xs → (suc (count_of k xs) if b otherwise count_of k xs) ≤ suc (length xs)
    go true h = omega arith
    go false h = omega arith

-- every key of a list is below 64
abbrev pub KeysFit : List ℕ → Type 0
KeysFit ks = (i : ℕ) → i < length ks → get_or ks i 0 < 64

-- a key's term with so many copies there, by the table of what is wanted
unfoldable pub count_term : (prices : List ℕ) → (dup : ℕ) → (want : List ℕ) → (k count : ℕ) → ℕ
count_term prices dup want k count = term (gas_of prices Pop) dup (gas_of prices (PushImm k)) count (get_or want k 0)

pub sum_same : (f g : ℕ → ℕ) (n : ℕ) → ((k : ℕ) → k < n → f k ≡ g k) → sum_to f n ≡ sum_to g n
unfolding sum_to
sum_same f g zero h = refl
sum_same f g (suc n) h =
    let e : sum_to f n ≡ sum_to g n = sum_same f g n (λ k l. h k (omega arith)) in
    let d : f n ≡ g n = h n (omega arith) in
    rw (e, d)

-- the place of a key in the list does not matter
count_of_push : (k x : ℕ) (xs : List ℕ) → count_of k (xs ++ (x ∷ [])) ≡ count_of k (x ∷ xs)
count_of_push k x [] = refl
count_of_push k x (y ∷ xs) = go (eqb y k) (eqb x k) (count_of_push k x xs)
  where
    go : (b c : Bool) → count_of k (xs ++ (x ∷ [])) ≡ (suc (count_of k xs) if c otherwise count_of k xs) → (suc (count_of k (xs ++ (x ∷ []))) if b otherwise count_of k (xs ++ (x ∷ []))) ≡ (suc (suc (count_of k xs) if b otherwise count_of k xs) if c otherwise (suc (count_of k xs) if b otherwise count_of k xs))
    go true true h = ap suc h
    go true false h = ap suc h
    go false true h = h
    go false false h = h

-- one key more of a list
pub count_on : (table list : List ℕ) (i : ℕ) → i < length list → get_or list i 0 < 64 → Counted table (take i list) → Counted (set table (get_or list i 0) (get_or table (get_or list i 0) 0 + 1)) (take (i + 1) list)
count_on table list i l f c =
    let m = count_more table (take i list) (get_or list i 0) f c in
    rw (take_more list i 0 l) (record { size = m.size; at = λ k h. m.at k h ∙ sym (count_of_push k (get_or list i 0) (take i list)) })

-- a table's number is small
pub count_small : (table xs : List ℕ) (k : ℕ) → length xs ≤ 21 → k < 64 → Counted table xs → get_or table k 0 < 255
count_small table xs k l m c = omega (arith, c.at k m, count_below k xs)

-- ---- the term, case by case

module _ (pop dup mat have want : ℕ) where
  pub term_surplus : (r : ℕ) → want < have → r ≡ times pop (have - want) → r ≡ term pop dup mat have want
  unfolding term
  term_surplus r l e = rw (lt-ltb want have l) e

  pub term_enough : have ≡ want → 0 ≡ term pop dup mat have want
  unfolding term
  term_enough e = let l : have ≤ want = omega arith in rw (le-ltb want have l, eq-eqb have want e)

  pub term_first : (per x r : ℕ) → have ≤ want → (have ≡ want → ⊥) → have ≡ 0 → per ≡ min mat dup → x ≡ times per (want - 1) → r ≡ capped mat x → r ≡ term pop dup mat have want
  unfolding term
  term_first per x r l n z p e h = rw (le-ltb want have l, ne_eqb have want n, eq-eqb have 0 z, ← p, ← e) h

  pub term_missing : (per r : ℕ) → have ≤ want → (have ≡ want → ⊥) → (have ≡ 0 → ⊥) → per ≡ min mat dup → r ≡ times per (want - have) → r ≡ term pop dup mat have want
  unfolding term
  term_missing per r l n z p e = rw (le-ltb want have l, ne_eqb have want n, ne_eqb have 0 z, ← p) e

pub sum_turn : (f : ℕ → ℕ) (n : ℕ) → sum_to f (n + 1) ≡ capped (sum_to f n) (f n)
unfolding sum_to
sum_turn f n = rw (add-one n)

-- the Rust adds a first copy and the other copies one after the other: sums that stop may be grouped
pub grouped : (g a b : ℕ) → capped (capped g a) b ≡ capped g (capped a b)
grouped g a b = omega arith
