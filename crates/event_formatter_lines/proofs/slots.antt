mod Untimed
mod DistinctSlots
mod SlotsByTag
mod LentSlots
mod Locality
mod SteppedSlots
