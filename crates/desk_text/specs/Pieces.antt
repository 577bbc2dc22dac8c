-- The input in pieces: however it is parted, the reader fed with the pieces one after the other is the reader fed with their whole.
use Rattle.std.specs.Prelude.{ℕ, List, [], ◌∷◌, ◌++◌, ◌≡◌, refl}
use Rattle.std.proofs.Common.{ap, sym, ◌∙◌}
use Rattle.desk_text.specs.Noted.{Noted}
use Rattle.desk_text.specs.Question.{question_of}
use Rattle.desk_text.specs.Machine.{fresh, fed_all}
use Rattle.desk_text.specs.Reader.{Heard, Sound, Fed}
use Rattle.desk_text.specs.Meaning.{heard, heard_question, fed_append}

-- pieces fed one after the other, each as `feed` does (`Fed`)
unfoldable pub fed_pieces : Noted → List (List ℕ) → Noted
fed_pieces s [] = s
fed_pieces s (p ∷ ps) = fed_pieces (fed_all s p) ps

-- pieces in a row
unfoldable pub joined : List (List ℕ) → List ℕ
joined [] = []
joined (p ∷ ps) = p ++ joined ps

-- the pieces one after the other are their whole
pub fed_pieces_lem : (ps : List (List ℕ)) (s : Noted) → fed_pieces s ps ≡ fed_all s (joined ps)
unfolding fed_pieces joined fed_all
fed_pieces_lem [] s = refl
fed_pieces_lem (p ∷ ps) s = fed_pieces_lem ps (fed_all s p) ∙ sym (fed_append p (joined ps) s)

-- two partings of one text leave the same reader
pub parted_alike : (ps qs : List (List ℕ)) (s : Noted) → joined ps ≡ joined qs → fed_pieces s ps ≡ fed_pieces s qs
parted_alike ps qs s e = fed_pieces_lem ps s ∙ ap (fed_all s) e ∙ sym (fed_pieces_lem qs s)

-- however the input comes in pieces, the answer is the question of the whole
pub pieces_question : (ps : List (List ℕ)) → heard (fed_pieces fresh ps) ≡ question_of (joined ps)
pieces_question ps = ap heard (fed_pieces_lem ps fresh) ∙ heard_question (joined ps)

-- a reader follows from another by pieces, each fed once, in their order, and by nothing else
pub record FedPieces (s r : Noted) : Type 0 where
  pub pieces : List (List ℕ)
  pub sound : Sound r
  pub fed : r ≡ fed_pieces s pieces

-- no piece yet
pub piece_none : (s : Noted) → Sound s → FedPieces s s
unfolding fed_pieces
piece_none s w = record { pieces = []; sound = w; fed = refl }

-- a piece behind pieces
piece_last : (ps : List (List ℕ)) (p : List ℕ) (s : Noted) → fed_pieces s (ps ++ (p ∷ [])) ≡ fed_all (fed_pieces s ps) p
unfolding fed_pieces
piece_last [] p s = refl
piece_last (q ∷ ps) p s = piece_last ps p (fed_all s q)

pub piece_more : (p : List ℕ) (s r t : Noted) → FedPieces s r → Fed p r t → FedPieces s t
piece_more p s r t w f =
    record {
      pieces = w.pieces ++ (p ∷ []);
      sound = f.sound;
      fed = f.fed ∙ ap (λ (x : Noted). fed_all x p) w.fed ∙ sym (piece_last w.pieces p s);
    }

-- the text heard is longer by the pieces in a row
pub pieces_heard : (text : List ℕ) (s r : Noted) → Heard text s → (w : FedPieces s r) → Heard (text ++ joined w.pieces) r
pieces_heard text s r h w =
    w.fed ∙ fed_pieces_lem w.pieces s ∙ ap (λ (x : Noted). fed_all x (joined w.pieces)) h ∙ sym (fed_append text (joined w.pieces) fresh)
