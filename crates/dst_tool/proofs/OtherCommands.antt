-- A command that is none of those that only read or only write.
use Rattle.std.proofs.Common.{◌≡◌, ℕ, refl}
use Rattle.dst_spec.specs.Sample.{Shape}
use Rattle.dst_words.specs.declared.words.Command.{Command}
use Rattle.dst_words.specs.declared.words.Command.TheVariants.{Encode, Decode, Cut, Frame, Check, Show, ShowFrame, Index, Make, MakeRun, EncodeDsf}
use Rattle.dst_words.specs.declared.words.Command.TheVariants.{DecodeDsf, Range}
use Rattle.dst_words.specs.Commands.{command_seen}
use Rattle.dst_tool.specs.Runs.{ReadsAndWrites}

pub reads_and_writes : (c : Command) → (c ≡ Check → ⊥) → (c ≡ Show → ⊥) → ((k : ℕ) → c ≡ ShowFrame k → ⊥) → (c ≡ Index → ⊥) →
    ((start frames : ℕ) (f : Shape) → c ≡ Make start frames f → ⊥) → ((start frames : ℕ) (f : Shape) → c ≡ MakeRun start frames f → ⊥) →
    ReadsAndWrites (command_seen c)
reads_and_writes (Encode level) check show show_frame index make make_run = tt
reads_and_writes Decode check show show_frame index make make_run = tt
reads_and_writes (Cut first last) check show show_frame index make make_run = tt
reads_and_writes (Frame k by_index) check show show_frame index make make_run = tt
reads_and_writes (EncodeDsf level) check show show_frame index make make_run = tt
reads_and_writes DecodeDsf check show show_frame index make make_run = tt
reads_and_writes (Range pairs) check show show_frame index make make_run = tt
reads_and_writes Check check show show_frame index make make_run = check refl
reads_and_writes Show check show show_frame index make make_run = show refl
reads_and_writes (ShowFrame k) check show show_frame index make make_run = show_frame k refl
reads_and_writes Index check show show_frame index make make_run = index refl
reads_and_writes (Make start frames f) check show show_frame index make make_run = make start frames f refl
reads_and_writes (MakeRun start frames f) check show show_frame index make make_run = make_run start frames f refl
