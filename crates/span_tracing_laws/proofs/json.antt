mod Spans
mod Runs
mod Formats
mod Texts
