pub mod LeastSet
