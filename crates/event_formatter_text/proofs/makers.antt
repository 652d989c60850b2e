mod Boxes
mod Distinct
