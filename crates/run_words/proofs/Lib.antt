pub mod RunCalled
