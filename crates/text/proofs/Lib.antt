-- Laws of hexadecimal text, lines and frames, and of the report's text.
pub mod HexLaws
pub mod Writing
pub mod LineLaws
pub mod Feeding
pub mod FrameLaws
pub mod FrameRefusals
pub mod LentLaws
pub mod AnswerLaws
pub mod ReadLaws
pub mod Reading
pub mod Meaning
