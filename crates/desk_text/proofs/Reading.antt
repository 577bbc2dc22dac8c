-- Laws of the reader's code.
use Rattle.std.proofs.Common.{ℕ, ◌≡◌, ◌<◌, ◌-◌, List, [], ◌∷◌, ◌++◌, Bool, true, false, Option, Some, None, is_some, unwrap_or, cond, refl, ap, ◌∙◌, sym, arith, map, length, take, drop, eqb, eqb-true, one-add, ltb, get_or, ◌+◌, length-drop, length-append, append_assoc, take_all, eq-eqb, ne_eqb, suc, ◌≤◌, set, replicate}
use Rattle.std.proofs.lemmas.List.{map_more, length-map, length-take, set_at}
use Rattle.desk_text.specs.Padded.{padded}
use Rattle.std.specs.List.{prefix_len}
use Rattle.costs.specs.Choice.{◌if◌otherwise◌}
use Rattle.desk_text.specs.declared.read.Limits.{Limits}
use Rattle.desk_text.specs.declared.read.Line.TheVariants.{Done}
use Rattle.desk_text.specs.declared.read.Reader.{Reader}
use Rattle.desk_text.specs.Noted.{Noted, line_of, noted}
use Rattle.desk_text.specs.Machine.{digit_kept, digit_fed, fed_byte, fed_all, at_end, outcome}
use Rattle.desk_text.specs.Meaning.{heard, heard_question}
use Rattle.desk_text.specs.Grammar.{is_digit}
use Rattle.desk_text.specs.Question.{limits_of, key_of, question_of}
use Rattle.desk_text.specs.Reader.{Heard, Idle, Finished}

-- in a word whose value is 0 a digit `0` more changes nothing
module _ (s : Noted) (b : s.begun ≡ true) (d : s.digits ≡ true) (v : s.value ≡ 0) where
  still : digit_fed 48 s ≡ s
  unfolding digit_fed digit_kept is_digit
  still = rw (v, b, d)

  zero_same : fed_byte s 48 ≡ s
  unfolding fed_byte
  zero_same = go (ltb 2 s.line)
    where
      go : (t : Bool) → (s if t otherwise digit_fed 48 s) ≡ s
      go true = refl
      go false = still

  zeros_same : (bytes : List ℕ) → fed_all s bytes ≡ fed_all s (drop (prefix_len (λ x. eqb x 48) bytes) bytes)
  unfolding fed_all
  zeros_same [] = refl
  zeros_same (x ∷ xs) = go (eqb x 48) refl (zeros_same xs)
    where
      go : (t : Bool) → eqb x 48 ≡ t → fed_all s xs ≡ fed_all s (drop (prefix_len (λ y. eqb y 48) xs) xs) →
          fed_all (fed_byte s x) xs ≡ fed_all s (drop (cond t (1 + prefix_len (λ y. eqb y 48) xs) 0) (x ∷ xs))
      go true e i = rw (eqb-true x 48 e, zero_same, one-add (prefix_len (λ y. eqb y 48) xs)) i
      go false e i = refl

-- so the zeros in front of the bytes are passed at once
pub zeros_idle : (s : Reader) (bytes : List ℕ) (n m : ℕ) → s.begun ≡ true → s.word ≡ Some 0 → n ≡ prefix_len (λ x. eqb x 48) bytes → m ≡ length bytes - n → Idle bytes s (take m (drop n bytes))
zeros_idle s bytes n m b w e f =
    let d : is_some s.word ≡ true = ap is_some w in
    let v : unwrap_or s.word 0 ≡ 0 = ap (λ (o : Option ℕ). unwrap_or o 0) w in
    let k : length (drop n bytes) ≡ length bytes - n = length-drop n bytes in
    let t : take m (drop n bytes) ≡ drop n bytes = take_all m (drop n bytes) (omega arith) in
    record {
      short = rw t (omega arith);
      same = λ list. zeros_same (noted s list) b d v bytes ∙ rw (t, e);
    }

-- one key more in front of the zeros
padded_push : (ks : List ℕ) (i x : ℕ) → length ks ≡ i → i < 64 → set (padded ks) i x ≡ padded (ks ++ x ∷ [])
padded_push ks i x l h =
    let a : 64 - length ks ≡ suc (63 - i) = omega arith in
    let b : 64 - length (ks ++ x ∷ []) ≡ 63 - i = omega (arith, length-append ks (x ∷ [])) in
    rw (a, b) (set_at ks 0 (replicate (63 - i) 0) x i l ∙ sym (append_assoc ks (x ∷ []) (replicate (63 - i) 0)))

pub padded_more : (ns bytes : List ℕ) (i x : ℕ) → bytes ≡ padded (map key_of (take i ns)) → i < length ns → length ns ≤ 64 → x ≡ key_of (get_or ns i 0) → set bytes i x ≡ padded (map key_of (take (i + 1) ns))
padded_more ns bytes i x e h m k =
    let l : length (map key_of (take i ns)) ≡ i = omega (arith, length-map (take i ns) key_of, length-take i ns) in
    rw (e, k) (padded_push (map key_of (take i ns)) i (key_of (get_or ns i 0)) l (omega arith) ∙ ap padded (sym (map_more key_of ns i 0 h)))

-- the end of the input
module _ (s : Noted) (r : Reader) (list : List ℕ) (e : noted r list ≡ at_end s) where
  question_is : (text : List ℕ) → Heard text s → question_of text ≡ outcome (noted r list)
  unfolding heard
  question_is text h = sym (heard_question text) ∙ rw (← h, ← e)

  pub finish_none : (line_of r.line ≡ 3 → ⊥) → Finished s None
  unfolding outcome
  finish_none n text h = rw (question_is text h, ne_eqb _ _ n)

  pub finish_asked : (x : Limits) (n m : ℕ) (a b : List ℕ) → r.line ≡ Done → n ≡ r.starts → m ≡ r.count → x ≡ limits_of (take 6 list) →
      a ≡ map key_of (take (64 + n - 64) (drop 64 list)) → b ≡ map key_of (take (128 + m - 128) (drop 128 list)) →
      Finished s (Some (record { limits = x; start = a; goal = b }))
  unfolding outcome
  finish_asked x n m a b l g k p q f text t =
      let y : 64 + n - 64 ≡ r.starts = omega arith in
      let z : 128 + m - 128 ≡ r.count = omega arith in
      rw (question_is text t, eq-eqb _ _ (ap line_of l), p, ← y, ← z, ← q, ← f)
