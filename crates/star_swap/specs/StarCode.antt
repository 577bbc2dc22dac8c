-- What the functions around the trail take and give.
use Rattle.std.specs.Prelude.{◌≡◌, refl, List, [], ◌∷◌, ◌++◌, ℕ, suc, ◌+◌, ◌-◌, ◌≤◌, ◌<◌, length, set, take, drop}
use Rattle.std.proofs.Common.{sym, ap, subst, ◌∙◌, arith, append_assoc, append-nil, add-one, length-set, length-append, length-drop, take_all, drop-drop, take-suc-set}
use Rattle.std.proofs.Math.Seq.{drop-set-lt}
use Rattle.star_swap.specs.Star.{at}
use Rattle.star_swap.specs.Main.{Routable}
use Rattle.star_swap.specs.Link.{Linked, linked_start, link_right, link_wrong}
use Rattle.star_swap.specs.Chain.{byte, arcs_of, no_arcs}
use Rattle.star_swap.specs.declared.Arcs.{Arcs}

-- numbers stand over the places of a list from the place start on, and the other places are as they were; r is the place behind the last
pub record Wrote (steps : List ℕ) (start : ℕ) (l steps' : List ℕ) (r : ℕ) : Type 0 where
  pub number : r ≡ start + length l
  pub len : length steps' ≡ length steps
  pub text : take r steps' ≡ take start steps ++ l
  pub rest : drop r steps' ≡ drop r steps

pub wrote_none : (steps : List ℕ) (start : ℕ) → Wrote steps start [] steps start
wrote_none steps start = record { number = omega arith; len = refl; text = sym (append-nil (take start steps)); rest = refl }

drop_more : (a b : List ℕ) (i j : ℕ) → i ≤ j → drop i a ≡ drop i b → drop j a ≡ drop j b
drop_more a b i j h e =
    let j-is : j ≡ i + (j - i) = omega arith in
    ap (λ (z : ℕ). drop z a) j-is ∙ sym (drop-drop (j - i) i a) ∙ ap (drop (j - i)) e ∙ drop-drop (j - i) i b ∙ ap (λ (z : ℕ). drop z b) (sym j-is)

-- more numbers, behind those
pub wrote_more : (steps : List ℕ) (start : ℕ) (l steps' : List ℕ) (r : ℕ) (m steps'' : List ℕ) (t : ℕ) → Wrote steps start l steps' r → Wrote steps' r m steps'' t → Wrote steps start (l ++ m) steps'' t
wrote_more steps start l steps' r m steps'' t v w =
    record {
      number = omega (arith, v.number, w.number, length-append l m);
      len = w.len ∙ v.len;
      text = w.text ∙ ap (λ (k : List ℕ). k ++ m) v.text ∙ append_assoc (take start steps) l m;
      rest = w.rest ∙ drop_more steps' steps r t (omega (arith, w.number)) v.rest;
    }

-- one number
pub wrote_one : (steps : List ℕ) (i x : ℕ) → i < length steps → Wrote steps i (x ∷ []) (set steps i x) (i + 1)
wrote_one steps i x h =
    record {
      number = refl;
      len = length-set steps i x;
      text = rw (add-one i) (take-suc-set steps i x h);
      rest = drop-set-lt (i + 1) steps i x (omega arith);
    }

-- the rest of a list, as a slice
pub rest_all : (l : List ℕ) (n m : ℕ) → length l ≡ m → take (m - n) (drop n l) ≡ drop n l
rest_all l n m h = take_all (m - n) (drop n l) (omega (arith, h, length-drop n l))

-- two windows that star-swap can route, of at most 21 keys
pub record Pair (cur goal : List ℕ) : Type 0 where
  pub routable : Routable cur goal
  pub short : length cur ≤ 21
  pub cur_keys : (i : ℕ) → i < length cur → at cur i < 64

-- the lists of slots from p on are made
pub record LinkedAt (cur goal : List ℕ) (p : ℕ) (arcs : Arcs) : Type 0 where
  pub linked : (same : length cur ≡ length goal) → Linked cur goal same p arcs

module _ (cur goal : List ℕ) where
  pub linked_begin : LinkedAt cur goal (length cur) no_arcs
  linked_begin = record { linked = λ same. linked_start cur goal same (length cur) refl }

  module _ (p : Pair cur goal) (pos : ℕ) (arcs : Arcs) (low : 0 < pos) (high : pos ≤ length cur) (l : LinkedAt cur goal pos arcs) where
    before : (same : length cur ≡ length goal) → Linked cur goal same (suc (pos - 1)) arcs
    before same = subst (λ (z : ℕ). Linked cur goal same z arcs) {x = pos} {y = suc (pos - 1)} (omega arith) (l.linked same)

    pub goal_key : at goal (pos - 1) < 64
    goal_key = p.routable.keys (pos - 1) (omega (arith, p.routable.same_length))

    pub linked_right : at cur (pos - 1) ≡ at goal (pos - 1) → LinkedAt cur goal (pos - 1) arcs
    linked_right e = record { linked = λ same. link_right cur goal same p.short (pos - 1) arcs (omega arith) (before same) e }

    pub linked_wrong : (at cur (pos - 1) ≡ at goal (pos - 1) → ⊥) →
        LinkedAt cur goal (pos - 1) (arcs_of (set arcs.head (at goal (pos - 1)) (pos - 1)) (set arcs.next (pos - 1) (byte arcs.head (at goal (pos - 1)))))
    linked_wrong ne = record { linked = λ same. link_wrong cur goal same p.short (pos - 1) arcs (omega arith) (before same) goal_key ne }
