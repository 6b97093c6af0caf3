pub mod MadeSounds
