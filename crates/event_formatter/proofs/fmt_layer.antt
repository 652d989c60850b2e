mod Hooks
mod Names
