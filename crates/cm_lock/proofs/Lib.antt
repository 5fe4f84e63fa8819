-- The lemmas of the crate.
pub mod Notes
pub mod Origins
pub mod BesideWriter
pub mod Numbering
pub mod Frames
pub mod HeldEvents
pub mod LevelEvents
pub mod Opening
pub mod AnswerEvents
pub mod SeatEvents
pub mod RoundEvents
pub mod NumberCopies
pub mod FuseEvents
pub mod Tries
pub mod HoldViews
pub mod ChangeSteps
