mod SixDigits
mod Spaces
