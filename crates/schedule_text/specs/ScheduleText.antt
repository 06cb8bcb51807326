-- Document 01, "Probe and hub": what the schedule printer prints.
use Rattle.std.specs.Prelude.{List, [], ◌++◌, ℕ}
use Rattle.std.proofs.Math.Option.{Option, none, some}
use Rattle.model.specs.Lists.{Answer, accepted, refused, each}
use Rattle.model.specs.Schedule.{Passage}
use Rattle.model.specs.Calls.{accepted_schedule_in}
use Rattle.rows.specs.Rows.{message_of}
use Rattle.text.specs.Words.{ascii, decimal, field, refusal_line}

-- "(the seven fields; - for no message)": component, edge, location; entry, ready, end; message
abbrev pub place_text : Passage → List ℕ
place_text v = decimal v.component ++ field " " v.edge ++ field " " v.entry.location

abbrev pub ticks_text : Passage → List ℕ
ticks_text v = field " " v.entry.tick ++ field " " v.ready ++ field " " v.end

abbrev pub message_text : Option ℕ → List ℕ
message_text none = ascii " -"
message_text (some channel) = field " " channel

unfoldable pub passage_line : Passage → List ℕ
unfolding decimal
passage_line v = place_text v ++ ticks_text v ++ message_text v.message ++ ascii "\n"

unfoldable pub schedule_text : List Passage → List ℕ
unfolding passage_line each
schedule_text S = ascii "c e l entry ready end msg\n" ++ each passage_line S

-- "The schedule printer reads a table from standard input and prints": for any bytes
abbrev pub printed_answer : Answer (List Passage) → List ℕ
printed_answer (accepted S) = schedule_text S
printed_answer (refused number component) = refusal_line number component

unfoldable pub printed_schedule : List ℕ → List ℕ
unfolding accepted_schedule_in schedule_text refusal_line
printed_schedule table = printed_answer (accepted_schedule_in table)

-- ## From the passages that are lent

-- 255 is no message; what is printed of a passage tells nothing of its clocks and values
abbrev pub shown : Rattle.passages.specs.declared.Passage.Passage → Passage
shown p =
    record {
      component = p.component;
      edge = p.edge;
      entry = record { location = p.location; tick = p.entry; clocks = []; values = [] };
      ready = p.ready;
      end = p.end;
      message = message_of p.message;
    }
