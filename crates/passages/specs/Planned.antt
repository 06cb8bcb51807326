-- What the core by value answers: what the call is to answer and to write, whatever list of so many places is lent.
use Rattle.std.specs.Prelude.{◌≡◌, List, ℕ, ◌+◌, ◌*◌, ◌≤◌, ◌<◌, length, get_or}
use Rattle.model.specs.declared.Verdict.TheVariants.{Accepted}
use Rattle.passages.specs.declared.Passage.{Passage}
use Rattle.passages.specs.declared.Planned.{Planned}
use Rattle.passages.specs.Passages.{PassagesCall, passages_call}
use Rattle.passages.specs.Copied.{blank, copied}

-- ## Seven numbers a passage

-- number k of passage i, from 1 on
abbrev pub seventh : List ℕ → ℕ → ℕ → ℕ
seventh l i k = get_or l (i * 7 + k) 0

-- passage i of a list of numbers
abbrev pub from_seven : List ℕ → ℕ → Passage
from_seven l i =
    record {
      component = get_or l (i * 7) 0;
      edge = seventh l i 1;
      location = seventh l i 2;
      message = seventh l i 6;
      entry = seventh l i 3;
      ready = seventh l i 4;
      end = seventh l i 5;
    }

-- the four fields of one byte fit
pub record Small (l : List ℕ) (i : ℕ) : Type 0 where
  pub component : get_or l (i * 7) 0 < 256
  pub edge : seventh l i 1 < 256
  pub location : seventh l i 2 < 256
  pub message : seventh l i 6 < 256

pub record SmallRows (l : List ℕ) (n : ℕ) : Type 0 where
  pub each : (i : ℕ) → i < n → Small l i

-- ## What is planned

-- accepted: the first n passages of the numbers
pub record Laid (l : List ℕ) (n : ℕ) (p : Planned) : Type 0 where
  pub verdict : p.verdict ≡ Accepted
  pub count : p.count ≡ n
  pub items : (i : ℕ) → i < n → get_or p.items i blank ≡ from_seven l i

-- the call's answer, and what it leaves of the lent passages
pub record Says (call : PassagesCall) (p : Planned) (lent : List Passage) : Type 0 where
  pub verdict : p.verdict ≡ call.verdict
  pub size : p.count ≡ call.size
  pub leaves : copied lent p.items p.count ≡ call.lent

pub record Plans (table : List ℕ) (places : ℕ) (p : Planned) : Type 0 where
  pub within : p.count ≤ places
  pub few : p.count ≤ 1024
  pub says : (lent : List Passage) → length lent ≡ places → Says (passages_call table lent) p lent
