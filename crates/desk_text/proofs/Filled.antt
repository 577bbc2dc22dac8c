-- A list made from a function of the index is the function's table.
use Rattle.std.proofs.Common.{ℕ, zero, suc, ◌<◌, List, [], ◌∷◌, ◌++◌, ◌≡◌, refl, ap, ◌∙◌, sym, arith, add-one, map, get_or}
use Rattle.std.specs.Fn.{Called, Mut}
use Rattle.std.specs.Array.{IsFromFnResult}
use Rattle.std.specs.List.{range_with_len}
use Rattle.std.proofs.lemmas.List.FromFn.{map-range_with_len_more, fill_by_all}
use Rattle.desk_text.specs.Tables.{table}

table_map : (f : ℕ → ℕ) (n : ℕ) → map f (range_with_len 0 n) ≡ table f n
unfolding table
table_map f zero = refl
table_map f (suc n) =
    ap (λ k. map f (range_with_len 0 k)) (sym (add-one n)) ∙ map-range_with_len_more f 0 n n (omega arith) ∙ ap (λ xs. xs ++ (f n ∷ [])) (table_map f n)

module _ {F : Type 0} (g : Mut F (ℕ × Unit {0}) ℕ) (h : F) (xs : List ℕ) (n : ℕ) (f : ℕ → ℕ) (made : IsFromFnResult g h xs n) where
  pub made_table : ((p q : F) (i r : ℕ) → i < n → Called g p (i, tt) r q → r ≡ f i) → xs ≡ table f n
  made_table calls =
      fill_by_all f xs n 0 made.long (λ k b. let m = made.at k 0 b in calls m.0 m.1 k (get_or xs k 0) b m.2) ∙ table_map f n
