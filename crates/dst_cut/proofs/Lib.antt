mod CutPlaces
mod CutWhole
mod CutOutcome
mod CutCopied
mod CutRules
mod CutIndex
mod CutStages
mod CutAround
