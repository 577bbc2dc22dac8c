-- The desk's answer where the bytes of its input are known: laws of the code.
use Rattle.std.specs.Prelude.{◌⊎◌}
use Rattle.std.proofs.Common.{ℕ, ◌≡◌, inl, inr, ◌-◌, List, [], ◌++◌, None, Some, IfSome, Result, Ok, Err, OnErr, true, refl, sym, ap, subst, ◌∙◌, append_assoc, append-nil, take, length, drop, take_at, take_all, take-append-drop, length-drop, arith}
use Rattle.std.specs.declared.option.Option.{Option}
use Rattle.std.specs.Io.KnownBytes.{Appends, Consumes, IsAtEnd, Keeps}
use Rattle.std.proofs.KnownBytes.{Consumes-nil, Consumes-trans, Consumes-kept, Appends-nil, Appends-trans, Appends-kept}
use Rattle.desk_text.specs.declared.read.Reader.{Reader}
use Rattle.desk_text.specs.Noted.{Noted, noted}
use Rattle.desk_text.specs.Machine.{fresh, fed_all}
use Rattle.desk_text.specs.Meaning.{fed_append}
use Rattle.desk_text.specs.Question.{question_of}
use Rattle.desk_text.specs.Reader.{Heard, Settled, Fed}
use Rattle.desk_text.specs.Pieces.{FedPieces}
use Rattle.desk_text.specs.Text.{printed}
use Rattle.desk_answer.specs.Desk.{desk_answer, Responded}
use Rattle.desk.specs.Bytes.{Listened, Stopped, RepliedTo}

pub listened_none : (s : Noted) (input : Option (List ℕ)) → Listened s s input input
unfolding fed_all
listened_none s input = record { text = []; fed = refl; taken = Consumes-nil input }

pub listened_more : (piece : List ℕ) (s r t : Noted) (a b c : Option (List ℕ)) → Listened s r a b → Fed piece r t → Consumes b c piece → Listened s t a c
listened_more piece s r t a b c w f h =
    record {
      text = w.text ++ piece;
      fed = f.fed ∙ ap (λ (x : Noted). fed_all x piece) w.fed ∙ sym (fed_append w.text piece s);
      taken = Consumes-trans a b c w.text piece w.taken h;
    }

-- a read that failed leaves what was heard in front of it
pub stopped_at : {T E : Type 0} (r : Result T E) (s last : Noted) (new : List ℕ) (a b c : Option (List ℕ)) → FedPieces s last → Listened s last a b → new ≡ last.list → Keeps b c → OnErr r (Stopped s new a c)
stopped_at (Ok x) s last new a b c f w e k = tt
stopped_at (Err x) s last new a b c f w e k =
    record { last = last; list = e; fed = f; taken = record { text = w.text; fed = w.fed; taken = Consumes-kept a b c w.text w.taken k } }

-- the text heard is longer by what was fed
heard_on : (text more : List ℕ) (s r : Noted) → Heard text s → r ≡ fed_all s more → Heard (text ++ more) r
heard_on text more s r h e = e ∙ ap (λ (x : Noted). fed_all x more) h ∙ sym (fed_append text more fresh)

module _ (last : Reader) (list : List ℕ) (n : ℕ) (old out : List ℕ) (g : Responded (noted last list) old n out) where
  -- what was not read is passed over
  same_question : (text rest : List ℕ) → (rest ≡ []) ⊎ Settled last true → Heard text (noted last list) → question_of (text ++ rest) ≡ question_of text
  same_question text rest (inl e) h = ap question_of (ap (λ (l : List ℕ). text ++ l) e ∙ append-nil text)
  same_question text rest (inr w) h = w refl list text rest h

  answered : (s : Noted) (fed rest xs : List ℕ) → noted last list ≡ fed_all s fed → xs ≡ fed ++ rest → (rest ≡ []) ⊎ Settled last true →
      (text : List ℕ) → Heard text s → (n, out) ≡ printed (desk_answer (question_of (text ++ xs))) old
  answered s fed rest xs f e w text h =
      let heard : Heard (text ++ fed) (noted last list) = heard_on text fed s (noted last list) h f in
      let same : text ++ xs ≡ (text ++ fed) ++ rest = ap (λ (l : List ℕ). text ++ l) e ∙ sym (append_assoc text fed rest) in
      let asked : question_of (text ++ xs) ≡ question_of (text ++ fed) = ap question_of same ∙ same_question (text ++ fed) rest w heard in
      g.says (text ++ fed) heard ∙ ap (λ o. printed (desk_answer o) old) (sym asked)

  by_bytes : (s : Noted) (a b : Option (List ℕ)) (fed : List ℕ) → noted last list ≡ fed_all s fed → Consumes a b fed → IsAtEnd b ⊎ Settled last true → RepliedTo s a n old out
  by_bytes s None b fed f t w = tt
  by_bytes s (Some xs) None fed f t w = absurd t
  by_bytes s (Some xs) (Some ys) fed f t w = answered s fed ys xs f t w

  pub replied_to : (s : Noted) (a b : Option (List ℕ)) → Listened s (noted last list) a b → IsAtEnd b ⊎ Settled last true → RepliedTo s a n old out
  replied_to s a b l w = by_bytes s a b l.text l.fed l.taken w

-- the text is written but for the rest
pub record Written (a b : Option (List ℕ)) (text rest : List ℕ) : Type 0 where
  pub front : List ℕ
  pub parts : text ≡ front ++ rest
  pub grown : Appends a b front

pub written_none : (a : Option (List ℕ)) (text : List ℕ) → Written a a text text
written_none a text = record { front = []; parts = refl; grown = Appends-nil a }

pub written_more : (a b c : Option (List ℕ)) (text rest : List ℕ) (n m : ℕ) → Written a b text rest → Appends b c (take n rest) → m ≡ length rest - n → Written a c text (take m (drop n rest))
written_more a b c text rest n m w h e =
    let t : take m (drop n rest) ≡ drop n rest = take_all m (drop n rest) (omega (arith, length-drop n rest)) in
    record {
      front = w.front ++ take n rest;
      parts = w.parts ∙ rw (t, append_assoc w.front (take n rest) (drop n rest), take-append-drop n rest);
      grown = Appends-trans a b c w.front (take n rest) w.grown h;
    }

pub written_all : (a b : Option (List ℕ)) (text rest : List ℕ) → Written a b text rest → rest ≡ [] → Appends a b text
written_all a b text rest w e = subst (Appends a b) (sym (w.parts ∙ rw (e, append-nil))) w.grown

pub written_front : (a b : Option (List ℕ)) (text rest : List ℕ) → Written a b text rest → (k : ℕ) × Appends a b (take k text)
written_front a b text rest w = (length w.front, subst (Appends a b) (sym (ap (take (length w.front)) w.parts ∙ take_at w.front rest (length w.front) refl)) w.grown)

pub written_kept : (a b c : Option (List ℕ)) (text rest : List ℕ) → Written a b text rest → Keeps b c → Written a c text rest
written_kept a b c text rest w h = record { front = w.front; parts = w.parts; grown = Appends-kept a b c w.front w.grown h }

-- what was printed stands in front
printed_front : (t old out : List ℕ) (n : ℕ) → (n, out) ≡ printed t old → take n out ≡ t
printed_front t old out n e =
    let a : n ≡ length t = ap (λ (x : ℕ × List ℕ). x.0) e in
    let b : out ≡ t ++ drop (length t) old = ap (λ (x : ℕ × List ℕ). x.1) e in
    ap (take n) b ∙ take_at t (drop (length t) old) n (sym a)

-- the first places of the buffer are the desk's answer to the input
module _ (s : Noted) (input a b : Option (List ℕ)) (n : ℕ) (old out : List ℕ) (h : Heard [] s) where
  pub all_written : RepliedTo s input n old out → Appends a b (take n out) → IfSome input (λ xs. Appends a b (desk_answer (question_of xs)))
  all_written r p =
      elim input as (λ i. RepliedTo s i n old out → IfSome i (λ xs. Appends a b (desk_answer (question_of xs)))) [
        | None ↦ λ r'. tt
        | Some xs ↦ λ r'. subst (Appends a b) (printed_front (desk_answer (question_of xs)) old out n (r' [] h)) p
      ] r

  pub front_written : RepliedTo s input n old out → (k : ℕ) × Appends a b (take k (take n out)) → IfSome input (λ xs. (k : ℕ) × Appends a b (take k (desk_answer (question_of xs))))
  front_written r p =
      elim input as (λ i. RepliedTo s i n old out → IfSome i (λ xs. (k : ℕ) × Appends a b (take k (desk_answer (question_of xs))))) [
        | None ↦ λ r'. tt
        | Some xs ↦ λ r'. (p.0, subst (λ (l : List ℕ). Appends a b (take p.0 l)) (printed_front (desk_answer (question_of xs)) old out n (r' [] h)) p.1)
      ] r
