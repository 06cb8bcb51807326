pub mod ScheduleCalled
