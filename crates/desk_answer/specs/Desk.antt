-- What the desk says of its input: document 01, "The exam desk program".
use Rattle.std.specs.Prelude.{ℕ, ◌≤◌, List, [], map, ◌≡◌, length, take, replicate, eqb}
use Rattle.std.specs.Prelude.{Option, None, Some}
use Rattle.costs.specs.Choice.{◌if◌otherwise◌}
use Rattle.planner.specs.declared.Answer.{Answer}
use Rattle.desk_answer.specs.Planning.{planning}
use Rattle.desk_text.specs.Question.{Asked, question_of, key_of, limits_of}
use Rattle.desk_text.specs.State.{Noted}
use Rattle.desk_text.specs.Reader.{Heard}
use Rattle.desk_text.specs.Text.{desk_text, printed}
use Rattle.desk_text.specs.declared.print.Fields.{Fields}
use Rattle.desk_text.specs.declared.print.Spoken.{Spoken}
use Rattle.desk_text.specs.declared.print.Spoken.TheVariants.{Plan, Refused, Unreadable}

-- the fields of the planner's answer, in order
abbrev pub fields_from : Answer → Fields
fields_from a =
    record {
      found = a.found;
      step_count = a.step_count;
      plan_gas = a.plan_gas;
      plan_bytes = a.plan_bytes;
      ceiling_gas = a.ceiling_gas;
      ceiling_bytes = a.ceiling_bytes;
      origin = a.origin;
      ending = a.ending;
      expansions = a.expansions;
      highest = a.highest;
    }

-- a refusal prints its number, another answer its fields and the plan's steps
abbrev pub spoken_of : Answer → Spoken
spoken_of a = Plan (fields_from a) if eqb a.refusal 0 otherwise Refused a.refusal

-- a planning's text: the first entries of the step list are the plan
abbrev pub said : Answer × List ℕ → List ℕ
said (a, steps) = desk_text (spoken_of a) (take a.step_count steps)

-- the step list as the desk lends it: 1,000 steps
unfoldable pub zeros : List ℕ
zeros = replicate 1000 0

-- what is no question prints `unreadable`
abbrev pub unreadable : List ℕ
unreadable = desk_text Unreadable []

-- what the desk says of a question, or of input that is none
abbrev pub desk_answer : Option Asked → List ℕ
desk_answer None = unreadable
desk_answer (Some q) = said (planning (limits_of q.limits) (map key_of q.start) (map key_of q.goal) zeros)

-- the end of the input: what is printed is the desk's answer to the text heard
pub record Responded (reader : Noted) (old : List ℕ) (r : ℕ) (out : List ℕ) : Type 0 where
  pub fits : r ≤ length out
  pub says : (text : List ℕ) → Heard text reader → (r, out) ≡ printed (desk_answer (question_of text)) old
