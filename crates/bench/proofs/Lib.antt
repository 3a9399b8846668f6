-- What a run's promise says of what is handed on, and that a replay's promise leaves no second answer.
pub mod Handing
pub mod Replaying
