-- Token trees as plain data: tokens of numbers alone, and the bytes of their texts.
pub mod TokenCodes
pub mod Encoder
pub mod Decoder
pub mod TokenFaults
pub mod FlatViews
