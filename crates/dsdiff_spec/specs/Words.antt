-- What words of a command line ask for: a command, and how many work at it. A word is the list of its bytes.
use Rattle.std.specs.Prelude.{ℕ, Bool, List}

abbrev pub Word : Type 0
Word = List ℕ

-- What is done; file names stand at words 1 and 2, and are no part of it. Nor is how many work at it.
pub data Command : Type 0 where
  encode : (level : ℕ) → Command
  decode : Command
  cut : (first last : ℕ) → Command
  frame : (number : ℕ) (by_index : Bool) → Command
  check : Command
  show : Command
  show_frame : (number : ℕ) → Command
  index : Command
  make : (start frames channels multiple : ℕ) → Command
  make_run : (start frames channels multiple : ℕ) → Command
  encode_dsf : (level : ℕ) → Command
  decode_dsf : Command
  range : (pairs : List (ℕ × ℕ)) → Command

-- what words ask for: a command, and how many work at it side by side
pub record Task : Type 0 where
  pub command : Command
  pub workers : ℕ
