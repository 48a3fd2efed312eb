-- Laws of the mirror.
pub mod MirrorLaws
