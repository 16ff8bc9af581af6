-- Laws of the buffers of the programs.
pub mod Between
