-- Commands and tasks as the definitions have them.
use Rattle.std.specs.Prelude.{ℕ, ◌/◌, ◌≤◌, length, ⊤}
use Rattle.dst_spec.specs.Sample.{Shape}
use Rattle.dsdiff_spec.specs.Words as words
use Rattle.dst_words.specs.declared.words.Command.{Command}
use Rattle.dst_words.specs.declared.words.Command.TheVariants.{Encode, Decode, Cut, Frame, Check, Show, ShowFrame, Index, Make, MakeRun, EncodeDsf}
use Rattle.dst_words.specs.declared.words.Command.TheVariants.{DecodeDsf, Range}
use Rattle.dst_words.specs.declared.words.Task.{Task}

-- channels, and their rate in multiples of 64 times 44.1 kHz
abbrev pub channels_seen : Shape → ℕ × ℕ
channels_seen f = (f.channels, f.octets / 4704)

abbrev pub command_seen : Command → words.Command
command_seen (Encode level) = words.encode level
command_seen Decode = words.decode
command_seen (Cut first last) = words.cut first last
command_seen (Frame frame by_index) = words.frame frame by_index
command_seen Check = words.check
command_seen Show = words.show
command_seen (ShowFrame frame) = words.show_frame frame
command_seen Index = words.index
command_seen (Make start frames f) = words.make start frames (channels_seen f).0 (channels_seen f).1
command_seen (MakeRun start frames f) = words.make_run start frames (channels_seen f).0 (channels_seen f).1
command_seen (EncodeDsf level) = words.encode_dsf level
command_seen DecodeDsf = words.decode_dsf
command_seen (Range pairs) = words.range pairs

abbrev pub task_seen : Task → words.Task
task_seen t = record { command = command_seen t.command; workers = t.workers }

-- 1 to 16 workers
abbrev pub HasFewWorkers : Task → Type 0
HasFewWorkers t = (1 ≤ t.workers) × (t.workers ≤ 16)

-- Numbers that the command allows: a level that there is, frames of which the first isn't behind the last, no more made frames than are
-- made, or made in memory, and 1 to 16 parts of the sound.
abbrev pub NumbersAreLawful : Command → Type 0
NumbersAreLawful (Encode level) = level ≤ 3
NumbersAreLawful (Cut first last) = first ≤ last
NumbersAreLawful (Make start frames channels) = frames ≤ 1000
NumbersAreLawful (MakeRun start frames channels) = frames ≤ 100
NumbersAreLawful (EncodeDsf level) = level ≤ 3
NumbersAreLawful (Range pairs) = (1 ≤ length pairs) × (length pairs ≤ 16)
NumbersAreLawful c = ⊤

abbrev pub HasLawfulNumbers : Task → Type 0
HasLawfulNumbers t = NumbersAreLawful t.command
