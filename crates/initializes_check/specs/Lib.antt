pub mod InitializesCheck
