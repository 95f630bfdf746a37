-- Answers in numbers, as they cross to C
pub mod Numbers
