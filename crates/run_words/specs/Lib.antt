pub mod PrintedRun
