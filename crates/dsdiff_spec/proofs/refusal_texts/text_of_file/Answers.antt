-- Each name is that of its fault.
use Rattle.std.proofs.Common.{◌≡◌, ap, sym}
use Rattle.std.specs.Prelude.{codes}
use Rattle.dsdiff_spec.specs.declared.faults.FileFault.{FileFault}
use Rattle.dsdiff_spec.specs.Texts.{text_of}
use Rattle.dsdiff_spec.proofs.refusal_texts.text_of_file.Goals as goal

same_name : {a b : FileFault} → a ≡ b → codes (text_of b).name ≡ codes (text_of a).name
same_name e = ap (λ a. codes (text_of a).name) (sym e)

pub returns-in-NotForm-clause-name : goal.returns-in-NotForm-clause-name
returns-in-NotForm-clause-name c = same_name c.in-NotForm.is

pub returns-in-FormType-clause-name : goal.returns-in-FormType-clause-name
returns-in-FormType-clause-name c = same_name c.in-FormType.is

pub returns-in-Overrun-clause-name : goal.returns-in-Overrun-clause-name
returns-in-Overrun-clause-name c = same_name c.in-Overrun.is

pub returns-in-Version-clause-name : goal.returns-in-Version-clause-name
returns-in-Version-clause-name c = same_name c.in-Version.is

pub returns-in-PropMissing-clause-name : goal.returns-in-PropMissing-clause-name
returns-in-PropMissing-clause-name c = same_name c.in-PropMissing.is

pub returns-in-PropTwice-clause-name : goal.returns-in-PropTwice-clause-name
returns-in-PropTwice-clause-name c = same_name c.in-PropTwice.is

pub returns-in-PropType-clause-name : goal.returns-in-PropType-clause-name
returns-in-PropType-clause-name c = same_name c.in-PropType.is

pub returns-in-PropTooLong-clause-name : goal.returns-in-PropTooLong-clause-name
returns-in-PropTooLong-clause-name c = same_name c.in-PropTooLong.is

pub returns-in-Rate-clause-name : goal.returns-in-Rate-clause-name
returns-in-Rate-clause-name c = same_name c.in-Rate.is

pub returns-in-Channels-clause-name : goal.returns-in-Channels-clause-name
returns-in-Channels-clause-name c = same_name c.in-Channels.is

pub returns-in-Compression-clause-name : goal.returns-in-Compression-clause-name
returns-in-Compression-clause-name c = same_name c.in-Compression.is

pub returns-in-SoundMissing-clause-name : goal.returns-in-SoundMissing-clause-name
returns-in-SoundMissing-clause-name c = same_name c.in-SoundMissing.is

pub returns-in-SoundTwice-clause-name : goal.returns-in-SoundTwice-clause-name
returns-in-SoundTwice-clause-name c = same_name c.in-SoundTwice.is

pub returns-in-SoundUneven-clause-name : goal.returns-in-SoundUneven-clause-name
returns-in-SoundUneven-clause-name c = same_name c.in-SoundUneven.is

pub returns-in-FrameRate-clause-name : goal.returns-in-FrameRate-clause-name
returns-in-FrameRate-clause-name c = same_name c.in-FrameRate.is

pub returns-in-CountDiffers-clause-name : goal.returns-in-CountDiffers-clause-name
returns-in-CountDiffers-clause-name c = same_name c.in-CountDiffers.is

pub returns-in-FrameTooLong-clause-name : goal.returns-in-FrameTooLong-clause-name
returns-in-FrameTooLong-clause-name c = same_name c.in-FrameTooLong.is

pub returns-in-TooManyFrames-clause-name : goal.returns-in-TooManyFrames-clause-name
returns-in-TooManyFrames-clause-name c = same_name c.in-TooManyFrames.is

pub returns-in-TooManyChunks-clause-name : goal.returns-in-TooManyChunks-clause-name
returns-in-TooManyChunks-clause-name c = same_name c.in-TooManyChunks.is

pub returns-in-NotPlain-clause-name : goal.returns-in-NotPlain-clause-name
returns-in-NotPlain-clause-name c = same_name c.in-NotPlain.is

pub returns-in-KeptBad-clause-name : goal.returns-in-KeptBad-clause-name
returns-in-KeptBad-clause-name c = same_name c.in-KeptBad.is

pub returns-in-Range-clause-name : goal.returns-in-Range-clause-name
returns-in-Range-clause-name c = same_name c.in-Range.is

pub returns-in-IndexMissing-clause-name : goal.returns-in-IndexMissing-clause-name
returns-in-IndexMissing-clause-name c = same_name c.in-IndexMissing.is

pub returns-in-IndexBad-clause-name : goal.returns-in-IndexBad-clause-name
returns-in-IndexBad-clause-name c = same_name c.in-IndexBad.is

pub returns-in-FormTooLarge-clause-name : goal.returns-in-FormTooLarge-clause-name
returns-in-FormTooLarge-clause-name c = same_name c.in-FormTooLarge.is

pub returns-in-CodedChunk-clause-name : goal.returns-in-CodedChunk-clause-name
returns-in-CodedChunk-clause-name c = same_name c.in-CodedChunk.is

pub returns-in-NotCoded-clause-name : goal.returns-in-NotCoded-clause-name
returns-in-NotCoded-clause-name c = same_name c.in-NotCoded.is

pub returns-in-TailTooLong-clause-name : goal.returns-in-TailTooLong-clause-name
returns-in-TailTooLong-clause-name c = same_name c.in-TailTooLong.is

pub returns-in-DsfForm-clause-name : goal.returns-in-DsfForm-clause-name
returns-in-DsfForm-clause-name c = same_name c.in-DsfForm.is

pub returns-in-DsfFormat-clause-name : goal.returns-in-DsfFormat-clause-name
returns-in-DsfFormat-clause-name c = same_name c.in-DsfFormat.is

pub returns-in-DsfCount-clause-name : goal.returns-in-DsfCount-clause-name
returns-in-DsfCount-clause-name c = same_name c.in-DsfCount.is

pub returns-in-DsfKeptBad-clause-name : goal.returns-in-DsfKeptBad-clause-name
returns-in-DsfKeptBad-clause-name c = same_name c.in-DsfKeptBad.is

pub returns-in-RangePast-clause-name : goal.returns-in-RangePast-clause-name
returns-in-RangePast-clause-name c = same_name c.in-RangePast.is
